-- Tokens and their letters.
use Rattle.std.proofs.Common.{◌≡◌, refl, sym, ap, subst, ◌∙◌, ℕ, zero, suc, ◌+◌, ◌<◌, List, ◌∷◌, ◌++◌, length, get_or, take, add-one, arith, []}
use Rattle.cedar_text.specs.declared.letter.Letter.{Letter}
use Rattle.cedar_text.specs.declared.token_kind.TokenKind.{TokenKind}
use Rattle.cedar_text.specs.declared.token_kind.TokenKind.TheVariants as k
use Rattle.cedar_text.specs.Lexeme.{Lexeme, Lexemes}
use Rattle.cedar_text.specs.Letters.{IsSpelled}
use Rattle.cedar_text.specs.Tokens.{AreTokens}
use Rattle.cedar_parser_tokens.specs.Marks.{Mark, Marks, mark_of, HasLetters, IsMark, AreMarks, IsMarked}

-- ---- lists up to a place

take_next_at : {A : Type 0} (xs : List A) (i : ℕ) (x : A) → i < length xs → x ≡ get_or xs i x → take (suc i) xs ≡ take i xs ++ x ∷ []
take_next_at [] i x lt e = absurd (omega arith)
take_next_at (y ∷ xs) zero x lt e = ap (λ z. z ∷ []) (sym e)
take_next_at (y ∷ xs) (suc i) x lt e = ap (λ zs. y ∷ zs) (take_next_at xs i x (omega arith) e)

pub take_next : {A : Type 0} (xs : List A) (i : ℕ) (x : A) → i < length xs → x ≡ get_or xs i x → take (i + 1) xs ≡ take i xs ++ x ∷ []
take_next xs i x lt e = ap (λ n. take n xs) (add-one i) ∙ take_next_at xs i x lt e

-- ---- letters

-- no text writes two lists of letters
abbrev pub OneSpelling : Type 0
OneSpelling = (text : List ℕ) (ls others : List Letter) → IsSpelled text ls → IsSpelled text others → ls ≡ others

pub spelled_by : (q : TokenKind) (text : List ℕ) (ls : List Letter) → q ≡ k.String → HasLetters q text ls → IsSpelled text ls
spelled_by q text ls e h = subst (λ (x : TokenKind). HasLetters x text ls) e h

pub none_left : (us : Marks) → length us ≡ 0 → us ≡ []
none_left [] e = refl
none_left (u ∷ us) e = absurd (omega arith)

-- ---- tokens and their letters

letters_same : (law : (text : List ℕ) (letters others : List Letter) → IsSpelled text letters → IsSpelled text others → letters ≡ others)
    → (q : TokenKind) (text : List ℕ) (a b : List Letter) → HasLetters q text a → HasLetters q text b → a ≡ b
letters_same law k.String text a b h g = law text a b h g
letters_same law _ text a b h g = h ∙ sym g

mark_same : (law : (text : List ℕ) (letters others : List Letter) → IsSpelled text letters → IsSpelled text others → letters ≡ others) → (t : Lexeme) (m n : Mark) → IsMark t m → IsMark t n → m ≡ n
mark_same law t m n h g = h.0 ∙ ap (mark_of t) (letters_same law t.kind t.text m.letters n.letters h.1 g.1) ∙ sym g.0

-- No tokens have two lists of letters.
pub marks_same : (law : (text : List ℕ) (letters others : List Letter) → IsSpelled text letters → IsSpelled text others → letters ≡ others) → (ts : Lexemes) (ms ns : Marks)
    → AreMarks ts ms → AreMarks ts ns → ms ≡ ns
marks_same law [] [] [] h g = refl
marks_same law [] [] (n ∷ ns) h g = absurd g
marks_same law [] (m ∷ ms) ns h g = absurd h
marks_same law (t ∷ ts) [] ns h g = absurd h
marks_same law (t ∷ ts) (m ∷ ms) [] h g = absurd g
marks_same law (t ∷ ts) (m ∷ ms) (n ∷ ns) h g = λ k. mark_same law t m n h.0 g.0 k ∷ marks_same law ts ms ns h.1 g.1 k

-- No text has two.
pub all_same : OneSpelling → (ts : Lexemes) (ms ns : Marks) {source : List ℕ} → ((us : Lexemes) → AreTokens source us → ts ≡ us) → AreMarks ts ms → IsMarked source ns → ms ≡ ns
all_same law ts ms ns only are i = marks_same law ts ms ns are (subst (λ (us : Lexemes). AreMarks us ns) (sym (only i.0 i.1)) i.2)
