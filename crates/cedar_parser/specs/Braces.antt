-- How the first bytes of a text distinguish JSON from a policy text (own).
use Rattle.std.specs.Prelude.{◌≡◌, ℕ, Bool, true, false, ◌||◌, ◌==◌, if◌then◌else◌, List, [], ◌∷◌}
use Rattle.cedar_ext.specs.declared.language.Language.{Language}
use Rattle.cedar_ast.specs.PolicySetTree.{PolicySetTree}
use Rattle.cedar_parser.specs.PolicyText.{IsPolicyText}

-- White space of JSON: space, tab, LF and CR (RFC 8259, section 2).
abbrev pub is_json_white : ℕ → Bool
is_json_white b = b == 32 || b == 9 || b == 10 || b == 13

-- Whether the first byte that is not white space of JSON is `{`, which is 123 (RFC 8259, section 2; own).
abbrev pub begins_with_brace : List ℕ → Bool
begins_with_brace [] = false
begins_with_brace (b ∷ bs) = if is_json_white b then begins_with_brace bs else b == 123

-- In no language does a policy text begin with `{`, also not after white space of JSON (Cedar language reference, grammar: Policy).
abbrev pub TextsBeginWithNoBrace : Type 0
TextsBeginWithNoBrace = (language : Language) (source : List ℕ) (set : PolicySetTree) → begins_with_brace source ≡ true → IsPolicyText language source set → ⊥
