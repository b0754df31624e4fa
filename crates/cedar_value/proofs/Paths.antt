-- Words, and where a text is cut at its first `::`.
use Rattle.std.proofs.Common.{◌≡◌, ◌<◌, ◌≤◌, ℕ, ◌||◌, ◌&&◌, not, Bool, true, false, List, [], ◌∷◌, ◌++◌, length, take, drop, refl, sym, ap, ◌∙◌, arith, length-append}
use Rattle.std.specs.List.{list_all}
use Rattle.std.specs.Str.{IsUtf8}
use Rattle.std.specs.Str.Pattern.{LacksTextAt, HasTextAt}
use Rattle.std.proofs.lemmas.List.{take-append-drop}
use Rattle.std.proofs.lemmas.Str.{IsUtf8-drop}
use Rattle.cedar_value.specs.Names.{is_identifier, is_reserved, is_word, is_word_start, is_word_byte}

pub and_first : (b c : Bool) → (b && c) ≡ true → b ≡ true
and_first true c h = refl
and_first false c h = cc

pub and_second : (b c : Bool) → (b && c) ≡ true → c ≡ true
and_second true c h = h
and_second false c h = cc

pub and_both : (b c : Bool) → b ≡ true → c ≡ true → (b && c) ≡ true
and_both true c h g = g
and_both false c h g = cc

or_first : (b c : Bool) → b ≡ true → (b || c) ≡ true
or_first true c h = refl
or_first false c h = cc

-- an identifier is made of word bytes, so there is no colon in it
pub word_bytes : (w : List ℕ) → is_identifier w ≡ true → list_all is_word_byte w ≡ true
word_bytes [] h = cc
word_bytes (b ∷ bs) h =
    let word = and_first (is_word (b ∷ bs)) (not (is_reserved (b ∷ bs))) h in
    and_both (is_word_byte b) (list_all is_word_byte bs) (or_first (is_word_start b) _ (and_first (is_word_start b) _ word)) (and_second (is_word_start b) _ word)

-- what a search for `::` tells of the text before it and after it
pub record IsCut (text word rest : List ℕ) : Type 0 where
  pub parts : text ≡ word ++ (58 ∷ 58 ∷ rest)
  pub is_first : (k : ℕ) → k < length word → (r : List ℕ) → drop k text ≡ 58 ∷ 58 ∷ r → ⊥
  pub is_text : IsUtf8 text → IsUtf8 rest

pub found_cut : (text word rest : List ℕ) (i j : ℕ) → ((k : ℕ) → k < i → LacksTextAt (58 ∷ 58 ∷ []) text k) → HasTextAt (58 ∷ 58 ∷ []) text i j → word ≡ take i text → rest ≡ drop j text → length word ≡ i → IsCut text word rest
found_cut text word rest i j lacks has word_is rest_is len = record {
  parts = sym (take-append-drop i text) ∙ (λ k. sym word_is k ++ (has.split ∙ ap (λ r. 58 ∷ 58 ∷ r) (sym rest_is)) k);
  is_first = λ k lt r is. lacks k (omega arith) r is;
  is_text = λ u. rw (rest_is, has.ends) (IsUtf8-drop text _ u has.after);
}

drop_front : (xs ys : List ℕ) → drop (length xs) (xs ++ ys) ≡ ys
drop_front [] ys = refl
drop_front (x ∷ xs) ys = drop_front xs ys

-- what it tells where there is none
pub no_cut : (text : List ℕ) → ((i : ℕ) → i ≤ length text → LacksTextAt (58 ∷ 58 ∷ []) text i) → (xs ys : List ℕ) → text ≡ xs ++ (58 ∷ 58 ∷ ys) → ⊥
no_cut text lacks xs ys is =
    lacks (length xs) (omega (arith, ap length is, length-append xs (58 ∷ 58 ∷ ys))) ys (ap (drop (length xs)) is ∙ drop_front xs (58 ∷ 58 ∷ ys))
