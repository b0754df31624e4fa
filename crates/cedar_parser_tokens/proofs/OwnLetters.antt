-- Characters of ASCII that strings and patterns write as themselves.
use Rattle.std.proofs.Common.{◌≡◌, ℕ, ◌<◌, Bool, true, not, eqb, List, [], ◌∷◌, ◌++◌, Some, None, map, refl, sym, ap, ap₂, subst, cond, ◌∙◌, arith}
use Rattle.std.specs.Prelude.{nat_lt}
use Rattle.std.specs.Char.{IsScalar}
use Rattle.std.specs.List.{list_all}
use Rattle.std.proofs.lemmas.Bool.{and_parts, not-true, eq-eqb, ltb-true, both_ways}
use Rattle.std.proofs.lemmas.Str.{encode_ascii}
use lib.Utf8.{low_scalar}
use Rattle.cedar_text.specs.declared.letter.Letter.TheVariants.{Character}
use Rattle.cedar_text.specs.Letters.{plain, AreWritten, nothing, more, is_plain, utf8_of}
use Rattle.cedar_ext.specs.declared.pattern.Element.{Element}
use Rattle.cedar_ext.specs.declared.pattern.Element.TheVariants as element
use Rattle.cedar_parser_tokens.specs.Marks.{content_of, pattern_of}
use Rattle.cedar_parser_tokens.specs.Private.Kept.{is_own_letter}

not_this : (b c : ℕ) → not (eqb b c) ≡ true → b ≡ c → ⊥
not_this b c h e = both_ways (eqb b c) (not-true (eqb b c) h) (eq-eqb b c e)

record Own (b : ℕ) : Type 0 where
  pub small : b < 128
  pub quote : b ≡ 34 → ⊥
  pub backslash : b ≡ 92 → ⊥
  pub star : b ≡ 42 → ⊥

own : (b : ℕ) → is_own_letter b ≡ true → Own b
own b h =
    let small = and_parts (nat_lt b 128) _ h in
    let quote = and_parts (not (eqb b 34)) _ small.1 in
    let others = and_parts (not (eqb b 92)) _ quote.1 in
    record { small = ltb-true b 128 small.0; quote = not_this b 34 quote.0; backslash = not_this b 92 others.0; star = not_this b 42 others.1 }

-- they are the letters of their text
pub own_written : (bs : List ℕ) → list_all is_own_letter bs ≡ true → AreWritten bs (map Character bs)
own_written [] h = nothing
own_written (b ∷ bs) h =
    let all = and_parts (is_own_letter b) (list_all is_own_letter bs) h in
    let o = own b all.0 in
    let valid : IsScalar b = low_scalar b (omega (arith, o.small)) in
    subst (λ (front : List ℕ). AreWritten (front ++ bs) (Character b ∷ map Character bs)) (encode_ascii b o.small) (more (plain valid o.quote o.backslash o.star) (own_written bs all.1))

all_plain : (bs : List ℕ) → list_all is_plain (map Character bs) ≡ true
all_plain [] = refl
all_plain (b ∷ bs) = all_plain bs

own_utf8 : (bs : List ℕ) → list_all is_own_letter bs ≡ true → utf8_of (map Character bs) ≡ bs
own_utf8 [] h = refl
own_utf8 (b ∷ bs) h =
    let all = and_parts (is_own_letter b) (list_all is_own_letter bs) h in
    ap₂ (λ (xs ys : List ℕ). xs ++ ys) (encode_ascii b (own b all.0).small) (own_utf8 bs all.1)

-- they denote their text
pub own_content : (bs : List ℕ) → list_all is_own_letter bs ≡ true → Some bs ≡ content_of (map Character bs)
own_content bs h = ap Some (sym (own_utf8 bs h)) ∙ ap (λ (b : Bool). cond b (Some (utf8_of (map Character bs))) None) (sym (all_plain bs))

-- they write the elements of their text in a pattern
pub own_pattern : (bs : List ℕ) → map element.Character bs ≡ pattern_of (map Character bs)
own_pattern [] = refl
own_pattern (b ∷ bs) = ap (λ (es : List Element). element.Character b ∷ es) (own_pattern bs)
