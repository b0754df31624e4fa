-- Characters that are shown, one after another.
use Rattle.std.proofs.Common.{◌≡◌, ◌<◌, ℕ, zero, suc, ◌+◌, arith, List, [], ◌∷◌, ◌++◌, map, take, length, get_or, refl, sym, ap, ◌∙◌}
use Rattle.std.specs.Str.{chars, IsUtf8}
use Rattle.std.specs.Char.{IsScalar, encode_utf8}
use Rattle.std.proofs.lemmas.List.{take_more, append-nil, append_assoc, map-append}
use Rattle.std.proofs.lemmas.Str.{IsUtf8-encode, chars-append, chars-nil, chars_past_char}
use Rattle.base_places.specs.Shown.{shown_as}

one_char : (c : ℕ) → IsScalar c → chars (encode_utf8 c) ≡ c ∷ []
one_char c s = chars_past_char (encode_utf8 c) [] c (IsUtf8-encode c s) (sym (append-nil (encode_utf8 c))) ∙ ap (λ cs. c ∷ cs) chars-nil

-- what is at a place does not depend on what would be there else
same_at : (xs : List ℕ) (n c : ℕ) → n < length xs → get_or xs n 0 ≡ get_or xs n c
same_at [] n c low = absurd (omega arith)
same_at (x ∷ xs) zero c low = refl
same_at (x ∷ xs) (suc n) c low = same_at xs n c (omega arith)

-- one character more is shown
pub shown_more : (begun old new all : List ℕ) (n c d : ℕ) → IsUtf8 old → IsScalar d → new ≡ old ++ encode_utf8 d → d ≡ shown_as c → n < length all → c ≡ get_or all n c
    → chars old ≡ begun ++ map shown_as (take n all) → chars new ≡ begun ++ map shown_as (take (n + 1) all)
shown_more begun old new all n c d utf8 scalar is shown low at before =
    let one : c ∷ [] ≡ get_or all n 0 ∷ [] = ap (λ x. x ∷ []) (at ∙ sym (same_at all n c low)) in
    let grown : map shown_as (take (n + 1) all) ≡ map shown_as (take n all) ++ d ∷ [] =
    ap (map shown_as) (take_more all n 0 low ∙ ap (λ xs. take n all ++ xs) (sym one)) ∙ map-append shown_as (take n all) (c ∷ []) ∙ ap (λ x. map shown_as (take n all) ++ x ∷ []) (sym shown) in
    ap chars is ∙ chars-append old (encode_utf8 d) utf8 ∙ ap (λ cs. chars old ++ cs) (one_char d scalar) ∙ ap (λ cs. cs ++ d ∷ []) before
    ∙ append_assoc begun (map shown_as (take n all)) (d ∷ []) ∙ ap (λ cs. begun ++ cs) (sym grown)
