-- The letters of a string that are written out so far.
use Rattle.std.proofs.Common.{◌≡◌, sym, ap, ◌∙◌, ℕ, ◌+◌, ◌≤◌, ◌<◌, Bool, false, ◌&&◌, List, ◌++◌, length, get_or, drop, Some, None}
use Rattle.std.specs.List.{list_all}
use Rattle.std.proofs.lemmas.Bool.{cond-true, cond-false}
use Rattle.std.proofs.lemmas.List.{append-nil, at_drop_more, at_drop_all}
use Rattle.cedar_text.specs.declared.letter.Letter.{Letter}
use Rattle.cedar_text.specs.Letters.{is_plain, utf8_of, plain_text_of}

and_false : (t u : Bool) → t ≡ false → (t && u) ≡ false
and_false t u e = ap (λ (x : Bool). x && u) e

pub star_turn : (letters : List Letter) (i : ℕ) (l d : Letter) (total : Bool) → i < length letters → get_or letters i d ≡ l → is_plain l ≡ false → list_all is_plain (drop i letters) ≡ total → total ≡ false
star_turn letters i l d total lt e p so_far =
    sym so_far ∙ at_drop_more (list_all is_plain) letters i d lt ∙ and_false (is_plain (get_or letters i d)) (list_all is_plain (drop (i + 1) letters)) (ap is_plain e ∙ p)

-- ---- what the contract says

pub starred : (letters : List Letter) → list_all is_plain letters ≡ false → None ≡ plain_text_of letters
starred letters e = sym (cond-false (list_all is_plain letters) (Some (utf8_of letters)) None e)

pub stands : (letters : List Letter) (i : ℕ) (text : List ℕ) → length letters ≤ i → text ++ utf8_of (drop i letters) ≡ utf8_of letters
    → list_all is_plain (drop i letters) ≡ list_all is_plain letters → Some text ≡ plain_text_of letters
stands letters i text le e p =
    let bytes = sym (append-nil text) ∙ sym (ap (λ (xs : List ℕ). text ++ xs) (at_drop_all utf8_of letters i le)) ∙ e in
    let all = sym (sym (at_drop_all (list_all is_plain) letters i le) ∙ p) in
    ap Some bytes ∙ sym (cond-true (list_all is_plain letters) (Some (utf8_of letters)) None all)
