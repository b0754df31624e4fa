-- The words of a text tell whether it is a name.
use Rattle.std.proofs.Common.{◌≡◌, ℕ, ◌&&◌, Bool, true, false, cond, nat_eq, List, [], ◌∷◌, ◌++◌, refl, sym, ap, subst, ◌∙◌, arith, append_assoc, append-nil}
use Rattle.std.specs.Bool.{Decides}
use Rattle.std.specs.List.{list_all}
use Rattle.std.proofs.lemmas.Bool.Decides.{nat_tests}
use Rattle.cedar_value.specs.Names.{IsName, is_identifier, is_word_byte, joined, words_from, is_name}
use Rattle.cedar_value.proofs.Paths.{and_first, and_second, and_both, word_bytes}

cut_at : (b c : ℕ) (w bs : List ℕ) (t : Bool) → (nat_eq b 58 && nat_eq c 58) ≡ t → (list_all is_identifier (words_from [] bs) ≡ true → IsName bs) → (list_all is_identifier (words_from (w ++ b ∷ []) (c ∷ bs)) ≡ true → IsName ((w ++ b ∷ []) ++ c ∷ bs))
    → list_all is_identifier (cond t (w ∷ words_from [] bs) (words_from (w ++ b ∷ []) (c ∷ bs))) ≡ true → IsName (w ++ b ∷ c ∷ bs)
cut_at b c w bs true e rest go h =
    let name = rest (and_second (is_identifier w) _ h) in
    let p : nat_eq b 58 ≡ true = and_first (nat_eq b 58) (nat_eq c 58) e in
    let q : nat_eq c 58 ≡ true = and_second (nat_eq b 58) (nat_eq c 58) e in
    let one : b ≡ 58 = grind (arith, nat_tests) in
    let two : c ≡ 58 = grind (arith, nat_tests) in
    record {
      first = w;
      others = name.first ∷ name.others;
      identifiers = and_both (is_identifier w) _ (and_first (is_identifier w) _ h) name.identifiers;
      text_is = λ i. w ++ (one i ∷ two i ∷ name.text_is i);
    }
cut_at b c w bs false e rest go h = subst IsName (append_assoc w (b ∷ []) (c ∷ bs)) (go h)

made_from : (s w : List ℕ) → list_all is_identifier (words_from w s) ≡ true → IsName (w ++ s)
made_from [] w h = record { first = w; others = []; identifiers = h; text_is = append-nil w }
made_from (b ∷ []) w h = record { first = w ++ b ∷ []; others = []; identifiers = h; text_is = refl }
made_from (b ∷ c ∷ bs) w h = cut_at b c w bs (nat_eq b 58 && nat_eq c 58) refl (made_from bs []) (made_from (c ∷ bs) (w ++ b ∷ [])) h

no_colon : (b : ℕ) (t : Bool) → nat_eq b 58 ≡ t → is_word_byte b ≡ true → nat_eq b 58 ≡ false
no_colon b true e h = let is : b ≡ 58 = grind (arith, nat_tests) in let no : is_word_byte 58 ≡ true = rw is at h in cc
no_colon b false e h = e

step : (b : ℕ) (s w : List ℕ) → nat_eq b 58 ≡ false → words_from w (b ∷ s) ≡ words_from (w ++ b ∷ []) s
step b [] w e = refl
step b (c ∷ s) w e = ap (λ t. cond (t && nat_eq c 58) (w ∷ words_from [] s) (words_from (w ++ b ∷ []) (c ∷ s))) e

walk : (v w rest : List ℕ) → list_all is_word_byte v ≡ true → words_from w (v ++ rest) ≡ words_from (w ++ v) rest
walk [] w rest h = ap (λ x. words_from x rest) (sym (append-nil w))
walk (b ∷ v) w rest h =
    step b (v ++ rest) w (no_colon b (nat_eq b 58) refl (and_first (is_word_byte b) _ h))
    ∙ walk v (w ++ b ∷ []) rest (and_second (is_word_byte b) _ h)
    ∙ ap (λ x. words_from x rest) (append_assoc w (b ∷ []) v)

told_by : (others : List (List ℕ)) (first : List ℕ) → list_all is_identifier (first ∷ others) ≡ true → list_all is_identifier (words_from [] (joined first others)) ≡ true
told_by [] first h =
    ap (list_all is_identifier) (ap (words_from []) (sym (append-nil first)) ∙ walk first [] [] (word_bytes first (and_first (is_identifier first) true h))) ∙ h
told_by (next ∷ others) first h =
    ap (list_all is_identifier) (walk first [] (58 ∷ 58 ∷ joined next others) (word_bytes first (and_first (is_identifier first) _ h)))
    ∙ and_both (is_identifier first) _ (and_first (is_identifier first) _ h) (told_by others next (and_second (is_identifier first) _ h))

pub is_name-Decides : (s : List ℕ) → Decides (is_name s) (IsName s)
unfolding is_name
is_name-Decides s = (
  λ h. made_from s [] h,
  λ name. ap (λ t. list_all is_identifier (words_from [] t)) name.text_is ∙ told_by name.others name.first name.identifiers,
)
