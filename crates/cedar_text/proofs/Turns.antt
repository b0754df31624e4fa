-- The tokens found so far, and those that are still to come.
use Rattle.std.proofs.Common.{◌≡◌, refl, sym, ap, ◌∙◌, ℕ, zero, suc, ◌+◌, ◌-◌, ◌≤◌, ◌<◌, List, [], ◌∷◌, ◌++◌, length, take, drop, Option, Some, None, Result, Ok, Err, append_assoc, arith}
use Rattle.std.proofs.lemmas.List.{append-nil}
use Rattle.cedar_text.specs.declared.token_kind.TokenKind.{TokenKind}
use Rattle.cedar_text.specs.declared.piece.Piece.{Piece}
use Rattle.cedar_text.specs.declared.text_fault.TextFault.{TextFault}
use Rattle.cedar_text.specs.declared.text_fault.TextFault.TheVariants as f
use Rattle.cedar_text.specs.Private.Outcomes.{Refuses}
use Rattle.cedar_text.specs.Lexeme.{Lexeme, Lexemes}
use Rattle.cedar_text.specs.Private.Lexing.{Refusal, BadCharacter, UnclosedString, BadEscape, NumberTooLarge, found_with, piece, add, and_then, lex}

abbrev pub with_front : Lexemes → Result Lexemes Refusal → Result Lexemes Refusal
with_front front r = and_then r (λ ts. Ok (front ++ ts))

pub begins : (bs : List ℕ) → with_front [] (lex (length bs - 0) 0 bs) ≡ lex (length bs) 0 bs
begins bs = let e : length bs - 0 ≡ length bs = omega arith in ap (λ (n : ℕ). with_front [] (lex n 0 bs)) e ∙ same (lex (length bs) 0 bs)
  where
    same : (r : Result Lexemes Refusal) → with_front [] r ≡ r
    same (Ok ts) = refl
    same (Err x) = refl

-- the turn's fuel
turn : (total at n : ℕ) (bs : List ℕ) → at < n → lex (n - at) total bs ≡ lex (suc (n - (at + 1))) total bs
turn total at n bs lt = let e : n - at ≡ suc (n - (at + 1)) = omega arith in ap (λ (m : ℕ). lex m total bs) e

step_on : (m at : ℕ) (bs : List ℕ) (r : Result Piece Refusal) → 0 < length bs → piece bs ≡ r → lex (suc m) at bs ≡ and_then r (λ p. and_then (lex m (at + p.len) (drop p.len bs)) (λ ts. Ok (add at bs p ts)))
unfolding lex
step_on m at [] r some e = absurd (omega arith)
step_on m at (b ∷ bs) r some e = ap (λ (r : Result Piece Refusal). and_then r (λ p. and_then (lex m (at + p.len) (drop p.len (b ∷ bs))) (λ ts. Ok (add at (b ∷ bs) p ts)))) e

blank_turn : (front : Lexemes) (r : Result Lexemes Refusal) → with_front front (and_then r (λ ts. Ok ts)) ≡ with_front front r
blank_turn front (Ok ts) = refl
blank_turn front (Err x) = refl

token_turn : (front : Lexemes) (t : Lexeme) (r : Result Lexemes Refusal) → with_front front (and_then r (λ ts. Ok (t ∷ ts))) ≡ with_front (front ++ t ∷ []) r
token_turn front t (Ok ts) = ap (λ (xs : Lexemes). Ok xs) (sym (append_assoc front (t ∷ []) ts))
token_turn front t (Err x) = refl

abbrev ok : Piece → Result Piece Refusal
ok p = Ok p

adds : (front : Lexemes) (o : Option TokenKind) (at len n : ℕ) (bs : List ℕ) (r : Result Lexemes Refusal)
    → with_front front (and_then r (λ ts. Ok (add at bs (record { kind = o; len = len; number = n }) ts))) ≡ with_front (found_with o at (take len bs) len n front) r
adds front None at len n bs r = blank_turn front r
adds front (Some kind) at len n bs r = token_turn front (record { kind = kind; start = at; text = take len bs; number = n }) r

pub goes_on : (front : Lexemes) (n i at : ℕ) (bs : List ℕ) (o : Option TokenKind) (len v : ℕ) (total : Result Lexemes Refusal) → i < n → 0 < length bs → piece bs ≡ ok (record { kind = o; len = len; number = v })
    → with_front front (lex (n - i) at bs) ≡ total → with_front (found_with o at (take len bs) len v front) (lex (n - (i + 1)) (at + len) (drop len bs)) ≡ total
goes_on front n i at bs o len v total lt some e h =
    sym (adds front o at len v bs (lex (n - (i + 1)) (at + len) (drop len bs)))
    ∙ sym (ap (with_front front) (turn at i n bs lt ∙ step_on (n - (i + 1)) at bs (ok (record { kind = o; len = len; number = v })) some e)) ∙ h

pub stops : (front : Lexemes) (n i at : ℕ) (bs : List ℕ) (x : Refusal) (total : Result Lexemes Refusal) → i < n → 0 < length bs → piece bs ≡ Err x
    → with_front front (lex (n - i) at bs) ≡ total → total ≡ Err x
stops front n i at bs x total lt some e h = sym h ∙ ap (with_front front) (turn at i n bs lt ∙ step_on (n - (i + 1)) at bs (Err x) some e)

pub refuses : (front : Lexemes) (n i at : ℕ) (bs : List ℕ) (x : TextFault) (total : Result Lexemes Refusal) → i < n → 0 < length bs → Refuses (piece bs) x
    → with_front front (lex (n - i) at bs) ≡ total → Refuses total x
refuses front n i at bs f.OutOfMemory total lt some e h = tt
refuses front n i at bs (f.BadCharacter q) total lt some e h = stops front n i at bs BadCharacter total lt some e h
refuses front n i at bs (f.UnclosedString q) total lt some e h = stops front n i at bs UnclosedString total lt some e h
refuses front n i at bs (f.BadEscape q) total lt some e h = stops front n i at bs BadEscape total lt some e h
refuses front n i at bs (f.NumberTooLarge q) total lt some e h = stops front n i at bs NumberTooLarge total lt some e h

pub at_end : (front : Lexemes) (m at : ℕ) (bs : List ℕ) (total : Result Lexemes Refusal) → length bs ≤ 0 → with_front front (lex m at bs) ≡ total → total ≡ Ok front
unfolding lex
at_end front zero at [] total e h = sym h ∙ ap (λ (xs : Lexemes). Ok xs) (append-nil front)
at_end front (suc m) at [] total e h = sym h ∙ ap (λ (xs : Lexemes). Ok xs) (append-nil front)
at_end front m at (b ∷ bs) total e h = absurd (omega arith)

pub no_turns : (front : Lexemes) (n i at : ℕ) (bs : List ℕ) (total : Result Lexemes Refusal) → n ≤ i → with_front front (lex (n - i) at bs) ≡ total → total ≡ Ok front
unfolding lex
no_turns front n i at bs total le h = sym h ∙ (let e : n - i ≡ 0 = omega arith in ap (λ (m : ℕ). with_front front (lex m at bs)) e) ∙ none bs
  where
    none : (xs : List ℕ) → with_front front (lex zero at xs) ≡ Ok front
    none [] = ap (λ (ys : Lexemes). Ok ys) (append-nil front)
    none (b ∷ xs) = ap (λ (ys : Lexemes). Ok ys) (append-nil front)
