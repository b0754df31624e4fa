-- Lemmas on the texts of answers.
use Rattle.std.proofs.Common.{◌≡◌, ℕ, List, [], ◌++◌, Result, Ok, Err, OnOk, sym, ap, ap₂, subst, ◌∙◌}
use Rattle.json.specs.Token.{Token}
use Rattle.json.specs.Print.{print}
use Rattle.serde_json.specs.Data.{Data}
use Rattle.serde_json.specs.Written.{compact_text}
use Rattle.serde_json.proofs.Texts.{print-outline}
use Rattle.cedar_files.specs.Private.Tokens.{data_tokens}

-- the tokens of a value, printed after what came before, are its compact text there
pub text_behind : {E : Type 0} (r w : Result (Unit {0}) E) (new old before : List ℕ) (none tokens : List Token) (d : Data)
    → r ≡ w → OnOk r (new ≡ before ++ print tokens) → before ≡ old → none ≡ [] → OnOk w (tokens ≡ none ++ data_tokens d) → OnOk r (new ≡ old ++ compact_text d)
text_behind {E} (Err e) w new old before none tokens d same n b z t = tt
text_behind {E} (Ok u) w new old before none tokens d same n b z t =
    let written : tokens ≡ none ++ data_tokens d = subst (λ (r : Result (Unit {0}) E). OnOk r (tokens ≡ none ++ data_tokens d)) (sym same) t in
    n ∙ ap₂ (λ (x : List ℕ) (y : List Token). x ++ print y) b (written ∙ ap (λ (u : List Token). u ++ data_tokens d) z) ∙ ap (λ (u : List ℕ). old ++ u) (print-outline d)

-- the same in a buffer of its own
pub text_alone : (items before : List ℕ) (none tokens : List Token) (d : Data) → items ≡ before ++ print tokens → before ≡ [] → none ≡ [] → tokens ≡ none ++ data_tokens d → items ≡ compact_text d
text_alone items before none tokens d e b z t =
    e ∙ ap₂ (λ (x : List ℕ) (y : List Token). x ++ print y) b (t ∙ ap (λ (u : List Token). u ++ data_tokens d) z) ∙ print-outline d
