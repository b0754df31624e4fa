-- A string with neither a quote nor a backslash denotes its own bytes.
use Rattle.std.proofs.Common.{◌≡◌, refl, sym, ap, subst, ◌∙◌, ℕ, ◌<◌, Bool, true, cond, not, eqb, List, [], ◌∷◌, ◌++◌, Some, None, inl, inr, arith}
use Rattle.std.specs.Prelude.{encode_utf8}
use Rattle.std.specs.Char.{IsScalar}
use Rattle.std.specs.List.{list_all}
use Rattle.std.specs.Str.{IsUtf8}
use Rattle.std.proofs.lemmas.Bool.{and_parts, not-true, eq-eqb, cases_eq, both_ways}
use Rattle.std.proofs.lemmas.Str.{encode_ascii}
use lib.Utf8.{scalar, scalars, encodes}
use Rattle.cedar_text.specs.declared.letter.Letter.{Letter}
use Rattle.cedar_text.specs.declared.letter.Letter.TheVariants.{Character, Star}
use Rattle.cedar_text.specs.Letters.{plain, bare_star, AreWritten, nothing, more, is_plain, utf8_of}
use Rattle.cedar_text.specs.Strings as s
use Rattle.cedar_text.specs.Strings.{IsString}
use Rattle.cedar_parser_tokens.specs.Marks.{content_of}
use Rattle.cedar_parser_tokens.specs.Private.PlainUid.{is_plain_byte}

not_quote : (b : ℕ) → is_plain_byte b ≡ true → b ≡ 34 → ⊥
not_quote b h e = both_ways (eqb b 34) (not-true (eqb b 34) (and_parts (not (eqb b 34)) (not (eqb b 92)) h).0) (eq-eqb b 34 e)

not_backslash : (b : ℕ) → is_plain_byte b ≡ true → b ≡ 92 → ⊥
not_backslash b h e = both_ways (eqb b 92) (not-true (eqb b 92) (and_parts (not (eqb b 34)) (not (eqb b 92)) h).1) (eq-eqb b 92 e)

pub plain_string : (bs : List ℕ) → list_all is_plain_byte bs ≡ true → IsString bs
plain_string [] h = s.empty
plain_string (b ∷ bs) h = let p = and_parts (is_plain_byte b) (list_all is_plain_byte bs) h in s.plain (not_quote b p.0) (not_backslash b p.0) (plain_string bs p.1)

-- The letters of a text denote it.
pub record Letters (bs : List ℕ) : Type 0 where
  pub letters : List Letter
  pub written : AreWritten bs letters
  pub all_plain : list_all is_plain letters ≡ true
  pub same : utf8_of letters ≡ bs

plain_back : (front back : List ℕ) → list_all is_plain_byte (front ++ back) ≡ true → list_all is_plain_byte back ≡ true
plain_back [] back h = h
plain_back (b ∷ front) back h = plain_back front back (and_parts (is_plain_byte b) (list_all is_plain_byte (front ++ back)) h).1

-- a character of ASCII is its byte
first_plain : (c a : ℕ) (rest : List ℕ) → c < 128 → c ≡ a → list_all is_plain_byte (encode_utf8 c ++ rest) ≡ true → is_plain_byte a ≡ true
first_plain c a rest small e h =
    let here : list_all is_plain_byte (c ∷ rest) ≡ true = subst (λ (bs : List ℕ). list_all is_plain_byte (bs ++ rest) ≡ true) (encode_ascii c small) h in
    subst (λ (b : ℕ). is_plain_byte b ≡ true) e (and_parts (is_plain_byte c) (list_all is_plain_byte rest) here).0

no_quote : (c : ℕ) (rest : List ℕ) → list_all is_plain_byte (encode_utf8 c ++ rest) ≡ true → c ≡ 34 → ⊥
no_quote c rest h e = not_quote 34 (first_plain c 34 rest (omega (arith, e)) e h) refl

no_backslash : (c : ℕ) (rest : List ℕ) → list_all is_plain_byte (encode_utf8 c ++ rest) ≡ true → c ≡ 92 → ⊥
no_backslash c rest h e = not_backslash 92 (first_plain c 92 rest (omega (arith, e)) e h) refl

one_more : (c : ℕ) (rest : List ℕ) → IsScalar c → list_all is_plain_byte (encode_utf8 c ++ rest) ≡ true → Letters rest → Letters (encode_utf8 c ++ rest)
one_more c rest valid h l =
    elim (cases_eq c 42) [
      | inl e ↦
          let star : encode_utf8 c ≡ 42 ∷ [] = ap encode_utf8 e ∙ encode_ascii 42 (omega arith) in
          record {
            letters = Star ∷ l.letters;
            written = subst (λ (bs : List ℕ). AreWritten (bs ++ rest) (Star ∷ l.letters)) (sym star) (more bare_star l.written);
            all_plain = l.all_plain;
            same = ap (λ (x : ℕ). encode_utf8 x ++ utf8_of l.letters) (sym e) ∙ ap (λ (bs : List ℕ). encode_utf8 c ++ bs) l.same;
          }
      | inr ne ↦
          record {
            letters = Character c ∷ l.letters;
            written = more (plain valid (no_quote c rest h) (no_backslash c rest h) ne) l.written;
            all_plain = l.all_plain;
            same = ap (λ (bs : List ℕ). encode_utf8 c ++ bs) l.same;
          }
    ]

letters_of : (cs : List ℕ) → scalars cs ≡ true → list_all is_plain_byte (encodes cs) ≡ true → Letters (encodes cs)
letters_of [] v h = record { letters = []; written = nothing; all_plain = refl; same = refl }
letters_of (c ∷ cs) v h =
    let p = and_parts (scalar c) (scalars cs) v in
    one_more c (encodes cs) p.0 h (letters_of cs p.1 (plain_back (encode_utf8 c) (encodes cs) h))

pub plain_letters : (bs : List ℕ) → IsUtf8 bs → list_all is_plain_byte bs ≡ true → Letters bs
plain_letters bs u h = subst Letters u.1.1 (letters_of u.0 u.1.0 (subst (λ (xs : List ℕ). list_all is_plain_byte xs ≡ true) (sym u.1.1) h))

pub content_same : (id : List ℕ) (l : Letters id) → Some id ≡ content_of l.letters
content_same id l = ap Some (sym l.same) ∙ ap (λ (b : Bool). cond b (Some (utf8_of l.letters)) None) (sym l.all_plain)
