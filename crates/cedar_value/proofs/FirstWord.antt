-- A text is a name according to its first word and to what comes after it.
use Rattle.std.proofs.Common.{◌≡◌, ◌↔◌, ◌<◌, ℕ, true, false, List, [], ◌∷◌, ◌++◌, length, refl, sym, ap, ◌∙◌, arith, length-append, append-nil}
use Rattle.std.specs.List.{list_all}
use Rattle.cedar_value.specs.Names.{IsName, is_identifier, is_word_byte, joined}
use Rattle.cedar_value.specs.Private.Words.{BeginsNoWord}
use Rattle.cedar_value.proofs.Paths.{and_first, and_second, and_both, word_bytes}

-- two words that a text begins with are one, where none of them goes on
same_word : (w f o r : List ℕ) → w ++ o ≡ f ++ r → list_all is_word_byte w ≡ true → list_all is_word_byte f ≡ true → BeginsNoWord o → BeginsNoWord r → (w ≡ f) × (o ≡ r)
same_word [] [] o r e hw hf ho hr = (refl, e)
same_word [] (b ∷ f) [] r e hw hf ho hr = cc
same_word [] (b ∷ f) (c ∷ o) r e hw hf ho hr =
    let heads : c ≡ b = cc in
    let word = and_first (is_word_byte b) (list_all is_word_byte f) hf in
    let ends : is_word_byte b ≡ false = rw heads at ho in cc
same_word (a ∷ w) [] o [] e hw hf ho hr = cc
same_word (a ∷ w) [] o (c ∷ r) e hw hf ho hr =
    let heads : c ≡ a = cc in
    let word = and_first (is_word_byte a) (list_all is_word_byte w) hw in
    let ends : is_word_byte a ≡ false = rw heads at hr in cc
same_word (a ∷ w) (b ∷ f) o r e hw hf ho hr =
    let tails : w ++ o ≡ f ++ r = cc in
    let heads : a ≡ b = cc in
    let more = same_word w f o r tails (and_second (is_word_byte a) _ hw) (and_second (is_word_byte b) _ hf) ho hr in
    (λ i. heads i ∷ more.0 i, more.1)

-- what comes after the first of these words
abbrev tail_of : List (List ℕ) → List ℕ
tail_of [] = []
tail_of (next ∷ words) = 58 ∷ 58 ∷ joined next words

tail_no_word : (words : List (List ℕ)) → BeginsNoWord (tail_of words)
tail_no_word [] = tt
tail_no_word (next ∷ words) = refl

joined_is : (first : List ℕ) (words : List (List ℕ)) → joined first words ≡ first ++ tail_of words
joined_is first [] = sym (append-nil first)
joined_is first (next ∷ words) = refl

module _ (text word others : List ℕ) (cut : text ≡ word ++ others) (bytes : list_all is_word_byte word ≡ true) (ends : BeginsNoWord others) where
  parts : (name : IsName text) → (word ≡ name.first) × (others ≡ tail_of name.others)
  parts name =
      same_word word name.first others (tail_of name.others) (sym cut ∙ name.text_is ∙ joined_is name.first name.others) bytes
      (word_bytes name.first (and_first (is_identifier name.first) _ name.identifiers)) ends (tail_no_word name.others)

  pub no_identifier : is_identifier word ≡ false → IsName text → ⊥
  no_identifier bad name = let ok = ap is_identifier (parts name).0 ∙ and_first (is_identifier name.first) _ name.identifiers in cc

  pub last_word : others ≡ [] → is_identifier word ≡ true → IsName text
  last_word none ok = record { first = word; others = []; identifiers = and_both (is_identifier word) true ok refl; text_is = cut ∙ ap (λ (r : List ℕ). word ++ r) none ∙ append-nil word }

  pub goes_on : (later : List ℕ) → others ≡ 58 ∷ 58 ∷ later → is_identifier word ≡ true → IsName text ↔ IsName later
  goes_on later is ok = (λ name. by name.first name.others name.identifiers (parts name).1, λ name. made name)
    where
      by : (first : List ℕ) (words : List (List ℕ)) → list_all is_identifier (first ∷ words) ≡ true → others ≡ tail_of words → IsName later
      by first [] h e = let none : 58 ∷ 58 ∷ later ≡ [] = sym is ∙ e in cc
      by first (next ∷ words) h e =
          let same : 58 ∷ 58 ∷ later ≡ 58 ∷ 58 ∷ joined next words = sym is ∙ e in
          let text_same : later ≡ joined next words = cc in
          record { first = next; others = words; identifiers = and_second (is_identifier first) _ h; text_is = text_same }

      made : IsName later → IsName text
      made name = record {
        first = word;
        others = name.first ∷ name.others;
        identifiers = and_both (is_identifier word) _ ok name.identifiers;
        text_is = cut ∙ ap (λ (r : List ℕ). word ++ r) is ∙ ap (λ (r : List ℕ). word ++ (58 ∷ 58 ∷ r)) name.text_is;
      }

  pub no_colons : (others ≡ [] → ⊥) → ((later : List ℕ) → others ≡ 58 ∷ 58 ∷ later → ⊥) → IsName text → ⊥
  no_colons some none name = by name.others (parts name).1
    where
      by : (words : List (List ℕ)) → others ≡ tail_of words → ⊥
      by [] e = some e
      by (next ∷ words) e = none (joined next words) e

  pub shorter : (later : List ℕ) → others ≡ 58 ∷ 58 ∷ later → length later < length text
  shorter later is = omega (arith, length-append word others, ap length cut, ap length is)
