-- The identifiers of names are the tokens that are identifiers.
use Rattle.std.proofs.Common.{◌≡◌, refl, sym, ap, subst, ◌∙◌, ℕ, Bool, true, false, cond, ◌&&◌, not, List, ◌∷◌, codes, []}
use Rattle.std.specs.Prelude.{◌||◌, ◌==◌, nat_le}
use Rattle.std.specs.List.{list_all, list_any}
use Rattle.std.specs.Str.{bytes_eq}
use Rattle.std.proofs.lemmas.Bool.{and_parts}
use Rattle.std.proofs.lemmas.Slice.Eq.{bytes_eq-Decides}
use Rattle.cedar_value.specs.Names.{is_word_start, is_word_byte, is_word, is_reserved, is_identifier, reserved_words}
use Rattle.cedar_text.specs.Bytes as bytes
use Rattle.cedar_text.specs.Bytes.{Stops}
use Rattle.cedar_text.specs.Signs as sign
use Rattle.cedar_text.specs.Signs.{IsSign}
use Rattle.cedar_text.specs.Tokens as cut
use Rattle.cedar_text.specs.Tokens.{IsToken}
use Rattle.cedar_text.specs.Words.{word_kind}
use Rattle.cedar_text.specs.declared.token_kind.TokenKind.{TokenKind}
use Rattle.cedar_text.specs.declared.token_kind.TokenKind.TheVariants as k

-- ---- bytes

turned : (a b c : Bool) → ((a || b) || c) ≡ ((b || a) || c)
turned true true c = refl
turned true false c = refl
turned false true c = refl
turned false false c = refl

letter_same : (b : ℕ) → bytes.is_letter b ≡ is_word_start b
letter_same b = turned (nat_le 97 b && nat_le b 122) (nat_le 65 b && nat_le b 90) (b == 95)

word_same : (b : ℕ) → bytes.is_word b ≡ is_word_byte b
word_same b = ap (λ (x : Bool). x || bytes.is_digit b) (letter_same b)

words_same : (bs : List ℕ) → list_all bytes.is_word bs ≡ list_all is_word_byte bs
words_same [] = refl
words_same (b ∷ bs) = ap (λ (x : Bool). x && list_all bytes.is_word bs) (word_same b) ∙ ap (λ (x : Bool). is_word_byte b && x) (words_same bs)

-- ---- reserved words

turned_eq : (x y : List ℕ) (b c : Bool) → bytes_eq x y ≡ b → bytes_eq y x ≡ c → c ≡ b
turned_eq x y true true e f = refl
turned_eq x y false false e f = refl
turned_eq x y true false e f = absurd (differ (sym ((bytes_eq-Decides y x).1 (sym ((bytes_eq-Decides x y).0 e))) ∙ f))
  where
    differ : true ≡ false → ⊥
    differ h = absurd cc
turned_eq x y false true e f = absurd (differ (sym ((bytes_eq-Decides x y).1 (sym ((bytes_eq-Decides y x).0 f))) ∙ e))
  where
    differ : true ≡ false → ⊥
    differ h = absurd cc

eq_turned : (x y : List ℕ) → bytes_eq y x ≡ bytes_eq x y
eq_turned x y = turned_eq x y (bytes_eq x y) (bytes_eq y x) refl refl

-- the kind of a word, by whether it is each of the reserved ones
abbrev kind_by : (b1 b2 b3 b4 b5 b6 b7 b8 b9 : Bool) → TokenKind
kind_by b1 b2 b3 b4 b5 b6 b7 b8 b9 =
    cond b1 k.True (cond b2 k.False (cond b3 k.If (cond b4 k.Then (cond b5 k.Else (cond b6 k.In (cond b7 k.Is (cond b8 k.Like (cond b9 k.Has k.Identifier))))))))

free_of : (b1 b2 b3 b4 b5 b6 b7 b8 b9 : Bool) → kind_by b1 b2 b3 b4 b5 b6 b7 b8 b9 ≡ k.Identifier → (b1 || (b2 || (b3 || (b4 || (b5 || (b6 || (b7 || (b8 || (b9 || false))))))))) ≡ false
free_of false false false false false false false false false e = refl
free_of _ _ _ _ _ _ _ _ _ e = absurd cc

kind_of_free : (b1 b2 b3 b4 b5 b6 b7 b8 b9 : Bool) → (b1 || (b2 || (b3 || (b4 || (b5 || (b6 || (b7 || (b8 || (b9 || false))))))))) ≡ false → kind_by b1 b2 b3 b4 b5 b6 b7 b8 b9 ≡ k.Identifier
kind_of_free false false false false false false false false false e = refl
kind_of_free _ _ _ _ _ _ _ _ _ e = absurd cc

either_same : (a b c d : Bool) → a ≡ b → c ≡ d → (a || c) ≡ (b || d)
either_same a b c d e f = ap (λ (x : Bool). x || c) e ∙ ap (λ (x : Bool). b || x) f

any_same : (w : List ℕ) (xs : List (List ℕ)) → list_any (λ other. bytes_eq other w) xs ≡ list_any (bytes_eq w) xs
any_same w [] = refl
any_same w (x ∷ xs) = either_same _ _ _ _ (eq_turned w x) (any_same w xs)

free_word : (w : List ℕ) → word_kind w ≡ k.Identifier → is_reserved w ≡ false
free_word w e = any_same w reserved_words ∙ free_of (bytes_eq w (codes "true")) (bytes_eq w (codes "false")) (bytes_eq w (codes "if")) (bytes_eq w (codes "then")) (bytes_eq w (codes "else")) (bytes_eq w (codes "in")) (bytes_eq w (codes "is")) (bytes_eq w (codes "like")) (bytes_eq w (codes "has")) e

identifier_kind : (w : List ℕ) → is_reserved w ≡ false → word_kind w ≡ k.Identifier
identifier_kind w e = kind_of_free (bytes_eq w (codes "true")) (bytes_eq w (codes "false")) (bytes_eq w (codes "if")) (bytes_eq w (codes "then")) (bytes_eq w (codes "else")) (bytes_eq w (codes "in")) (bytes_eq w (codes "is")) (bytes_eq w (codes "like")) (bytes_eq w (codes "has")) (sym (any_same w reserved_words) ∙ e)

-- ---- identifiers

not_false : (b : Bool) → not b ≡ true → b ≡ false
not_false true e = absurd cc
not_false false e = refl

both : (a b : Bool) → a ≡ true → b ≡ true → (a && b) ≡ true
both a b e f = ap (λ (x : Bool). x && b) e ∙ f

no_identifier_sign : (front : List ℕ) (kind : TokenKind) → IsSign front kind → kind ≡ k.Identifier → ⊥
no_identifier_sign front kind sign.double_colon e = absurd cc
no_identifier_sign front kind _ e = absurd cc

pub identifier_before : (word rest : List ℕ) → is_identifier word ≡ true → Stops bytes.is_word rest → IsToken k.Identifier 0 word rest
identifier_before [] rest e stops = absurd cc
identifier_before (b ∷ bs) rest e stops =
    let p = and_parts (is_word (b ∷ bs)) (not (is_reserved (b ∷ bs))) e in
    let q = and_parts (is_word_start b) (list_all is_word_byte bs) p.0 in
    subst (λ (kind : TokenKind). IsToken kind 0 (b ∷ bs) rest) (identifier_kind (b ∷ bs) (not_false (is_reserved (b ∷ bs)) p.1))
    (cut.word (letter_same b ∙ q.0) (words_same bs ∙ q.1) stops)

pub identifier_token : (word : List ℕ) → is_identifier word ≡ true → IsToken k.Identifier 0 word []
identifier_token word e = identifier_before word [] e tt

pub token_identifier : (n : ℕ) (kind : TokenKind) (word rest : List ℕ) → IsToken kind n word rest → kind ≡ k.Identifier → is_identifier word ≡ true
token_identifier n kind word rest (cut.word {b = b} {bs = bs} h a s) e =
    both (is_word (b ∷ bs)) (not (is_reserved (b ∷ bs))) (both (is_word_start b) (list_all is_word_byte bs) (sym (letter_same b) ∙ h) (sym (words_same bs) ∙ a)) (ap not (free_word (b ∷ bs) e))
token_identifier n kind word rest (cut.sign {kind = q} {front = f} i l) e = absurd (no_identifier_sign f q i e)
token_identifier n kind word rest _ e = absurd cc
