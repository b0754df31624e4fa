-- Tokens beside the letters of those that are strings.
use denote.Enum.Bare.{same_true}
use Rattle.std.proofs.Common.{arith, ◌≡◌, refl, sym, ap, subst, ◌∙◌, ℕ, zero, suc, ◌+◌, ◌<◌, true, false, List, [], ◌∷◌, ◌++◌, length, get_or, take}
use Rattle.std.proofs.lemmas.Bool.{cond-true, cond-false}
use Rattle.std.proofs.lemmas.List.{map-append}
use Rattle.cedar_text.specs.declared.letter.Letter.{Letter}
use Rattle.cedar_text.specs.declared.token.Token.{Token}
use Rattle.cedar_text.specs.declared.token_kind.TokenKind.{TokenKind}
use Rattle.cedar_text.specs.declared.token_kind.TokenKind.TheVariants as k
use Rattle.cedar_text.specs.Letters.{IsSpelled}
use Rattle.cedar_text.specs.Lexeme.{Lexeme, Lexemes, lexeme, lexemes}
use Rattle.cedar_parser_tokens.specs.Marks.{Mark, HasLetters, AreMarks}
use Rattle.cedar_parser_tokens.specs.Private.Spells.{is_string, first_letters, other_letters, marks_with, Spells, none, string, other}
use Rattle.cedar_text.specs.contracts.token_kind.TokenKind.{the_type}
use Rattle.cedar_parser_tokens.specs.Reading.{sees, next}
use Rattle.cedar_parser_tokens.proofs.MarkLemmas.{take_next}

-- one more string
pub spells-string : (ts : Lexemes) (ls : List (List Letter)) (t : Lexeme) (l : List Letter) → is_string t.kind ≡ true → t.kind ≡ k.String → IsSpelled t.text l → Spells ts ls
    → Spells (ts ++ t ∷ []) (ls ++ l ∷ [])
spells-string ts ls t l s e h none = string s e h none
spells-string ts ls t l s e h (string {ts = us} {ls = ms} a b c r) = string a b c (spells-string us ms t l s e h r)
spells-string ts ls t l s e h (other {ts = us} a r) = other a (spells-string us ls t l s e h r)

-- one more token that is none
pub spells-other : (ts : Lexemes) (ls : List (List Letter)) (t : Lexeme) → is_string t.kind ≡ false → Spells ts ls → Spells (ts ++ t ∷ []) ls
spells-other ts ls t s none = other s none
spells-other ts ls t s (string {ts = us} {ls = ms} a b c r) = string a b c (spells-other us ms t s r)
spells-other ts ls t s (other {ts = us} a r) = other a (spells-other us ls t s r)

-- the tokens up to the next place
pub lexemes_next : (ts : List Token) (i : ℕ) (x : Token) → i < length ts → x ≡ get_or ts i x → lexemes (take (i + 1) ts) ≡ lexemes (take i ts) ++ lexeme x ∷ []
lexemes_next ts i x lt at = ap lexemes (take_next ts i x lt at) ∙ map-append lexeme (take i ts) (x ∷ [])

no_letters : (kind : TokenKind) (text : List ℕ) → is_string kind ≡ false → HasLetters kind text []
no_letters k.String text e = absurd cc
no_letters _ text e = refl

-- the tokens with their letters
pub are_marks : (ts : Lexemes) (ls : List (List Letter)) → Spells ts ls → AreMarks ts (marks_with ts ls)
are_marks ts ls none = tt
are_marks ts ls (string {t = t} {ts = us} {l = l} {ls = ms} a b c r) =
    let letters : HasLetters t.kind t.text l = subst (λ (q : TokenKind). HasLetters q t.text l) (sym b) c in (
      (refl, subst (HasLetters t.kind t.text) (sym (cond-true (is_string t.kind) l [] a)) letters),
      subst (λ (xs : List (List Letter)). AreMarks us (marks_with us xs)) (sym (cond-true (is_string t.kind) ms (l ∷ ms) a)) (are_marks us ms r),
    )
are_marks ts ls (other {t = t} {ts = us} a r) = (
  (refl, subst (HasLetters t.kind t.text) (sym (cond-false (is_string t.kind) (first_letters ls) [] a)) (no_letters t.kind t.text a)),
  subst (λ (xs : List (List Letter)). AreMarks us (marks_with us xs)) (sym (cond-false (is_string t.kind) (other_letters ls) ls a)) (are_marks us ls r),
)

-- they are those of these tokens alone
pub marked_tokens : (ts us : Lexemes) (ls : List (List Letter)) → AreMarks ts (marks_with us ls) → ts ≡ us
marked_tokens [] [] ls h = refl
marked_tokens [] (u ∷ us) ls h = absurd h
marked_tokens (t ∷ ts) [] ls h = absurd h
marked_tokens (t ∷ ts) (u ∷ us) ls h =
    let e : t ≡ u = sym (ap (λ (m : Mark). record { kind = m.kind; start = m.start; text = m.text; number = m.number }) h.0.0) in
    ap (λ (x : Lexeme). x ∷ ts) e ∙ ap (λ (xs : Lexemes). u ∷ xs) (marked_tokens ts us _ h.1)

-- there are as many as tokens
pub length_marks : (ts : List Token) (ls : List (List Letter)) → length ts ≡ length (marks_with (lexemes ts) ls)
length_marks [] ls = refl
length_marks (t ∷ ts) ls = ap suc (length_marks ts _)

-- after the last there is none
pub none_behind : (kind : TokenKind) (ts : List Token) (ls : List (List Letter)) → length ts < 2 → false ≡ sees kind (next (marks_with (lexemes ts) ls))
unfolding sees next
none_behind kind [] ls lt = refl
none_behind kind (t ∷ []) ls lt = refl
none_behind kind (t ∷ u ∷ ts) ls lt = absurd (omega arith)

-- ---- from one turn to the next

-- the element at a place, whatever denotes none
same_at_other : (ts : List Token) (i : ℕ) (d e : Token) → i < length ts → get_or ts i d ≡ get_or ts i e
same_at_other [] i d e lt = absurd (omega arith)
same_at_other (y ∷ ts) zero d e lt = refl
same_at_other (y ∷ ts) (suc i) d e lt = same_at_other ts i d e (omega arith)

lexemes_more : (ts : List Token) (i : ℕ) (d : Token) → i < length ts → lexemes (take (i + 1) ts) ≡ lexemes (take i ts) ++ lexeme (get_or ts i d) ∷ []
lexemes_more ts i d lt = lexemes_next ts i (get_or ts i d) lt (same_at_other ts i d (get_or ts i d) lt)

-- one string more
pub turn_string : (ts : List Token) (i : ℕ) (d : Token) (ls more : List (List Letter)) (l : List Letter) → i < length ts → is_string (get_or ts i d).kind ≡ true → IsSpelled (lexeme (get_or ts i d)).text l
    → Spells (lexemes (take i ts)) ls → more ≡ ls ++ l ∷ [] → Spells (lexemes (take (i + 1) ts)) more
turn_string ts i d ls more l lt s h all e =
    let x = lexeme (get_or ts i d) in
    subst (λ (us : Lexemes). Spells us more) (sym (lexemes_more ts i d lt))
    (subst (Spells (lexemes (take i ts) ++ x ∷ [])) (sym e) (spells-string (lexemes (take i ts)) ls x l s (same_true the_type tt _ _ s) h all))

-- a token more that is none
pub turn_other : (ts : List Token) (i : ℕ) (d : Token) (ls : List (List Letter)) → i < length ts → is_string (get_or ts i d).kind ≡ false → Spells (lexemes (take i ts)) ls → Spells (lexemes (take (i + 1) ts)) ls
turn_other ts i d ls lt s all =
    subst (λ (us : Lexemes). Spells us ls) (sym (lexemes_more ts i d lt)) (spells-other (lexemes (take i ts)) ls (lexeme (get_or ts i d)) s all)
