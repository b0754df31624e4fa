-- What a JSON denotes at a depth.
use Rattle.std.proofs.Common.{◌≡◌, refl, sym, ap, ◌∙◌, ℕ, zero, suc, Option, Some, None}
use Rattle.serde_json.specs.Data.{Data}
use Rattle.cedar_parser_tree.specs.Written.{Written}
use Rattle.cedar_policies_json.specs.declared.mode.Mode.{Mode}
use Rattle.cedar_policies_json.specs.declared.mode.Mode.TheVariants.{Expression, Value}
use Rattle.cedar_policies_json.specs.Expressions.{expression_read, value_read, written_read}

nothing : (m : Mode) (d : Data) → None ≡ written_read m 0 d
unfolding written_read
nothing Expression d = refl
nothing Value d = refl

-- at depth 0 nothing is denoted
pub none_at_0 : (m : Mode) (n : ℕ) (d : Data) → n ≡ 0 → None ≡ written_read m n d
none_at_0 m n d e = nothing m d ∙ ap (λ k. written_read m k d) (sym e)

expression_next : (k : ℕ) (d : Data) → written_read Expression (suc k) d ≡ expression_read (written_read Expression k) (written_read Value k) d
unfolding written_read
expression_next k d = refl

value_next : (k : ℕ) (d : Data) → written_read Value (suc k) d ≡ value_read (written_read Value k) d
unfolding written_read
value_next k d = refl

-- at a depth an expression has parts at the next one
pub expression_at : (m : Mode) (n k : ℕ) (d : Data) → m ≡ Expression → n ≡ suc k → written_read m n d ≡ expression_read (written_read Expression k) (written_read Value k) d
expression_at m n k d is e = ap (λ x. written_read x n d) is ∙ ap (λ j. written_read Expression j d) e ∙ expression_next k d

-- at a depth a value has parts at the next one
pub value_at : (m : Mode) (n k : ℕ) (d : Data) → m ≡ Value → n ≡ suc k → written_read m n d ≡ value_read (written_read Value k) d
value_at m n k d is e = ap (λ x. written_read x n d) is ∙ ap (λ j. written_read Value j d) e ∙ value_next k d
