-- The number of a token is that of its text.
use Rattle.std.proofs.Common.{◌≡◌, refl, sym, subst, ◌∙◌, ℕ, ◌+◌, ◌<◌, min, false, leb, List, ◌∷◌, length, take, drop, Option, Some, None, Ok, arith, []}
use Rattle.std.specs.Prelude.{IsSome}
use Rattle.std.proofs.lemmas.Bool.{cond-true, cond-false, and_right, lt-leb}
use Rattle.cedar_text.specs.declared.token_kind.TokenKind.{TokenKind}
use Rattle.cedar_text.specs.declared.piece.Piece.{Piece}
use Rattle.cedar_text.specs.Bytes.{is_digit}
use Rattle.cedar_text.specs.Numbers.{decimal_from, max_number, number_in}
use Rattle.cedar_text.specs.Signs.{IsSign, double_colon}
use Rattle.cedar_text.specs.Tokens.{IsToken, word, number, string, slot, sign}
use Rattle.cedar_text.specs.Private.Lexing.{piece}
use Rattle.cedar_text.proofs.Pieces.{IsPiece, Fine, piece_fine, letter_bounds}

sign_number : (front : List ℕ) (kind : TokenKind) → IsSign front kind → 0 ≡ number_in front
sign_number front kind double_colon = refl
sign_number front kind _ = refl

token_number : (kind : TokenKind) (n : ℕ) (front rest : List ℕ) → IsToken kind n front rest → n ≡ number_in front
token_number kind n front rest (word {b = b} {bs = bs} h all s) =
    let q = letter_bounds b h in
    let e : is_digit b ≡ false = and_right (leb 48 b) (leb b 57) (lt-leb b 57 (omega arith)) in
    sym (cond-false (is_digit b) (min (decimal_from 0 (b ∷ bs)) (max_number + 1)) 0 e)
token_number kind n front rest (number {b = b} {bs = bs} h all s le) =
    let m : decimal_from 0 (b ∷ bs) ≡ min (decimal_from 0 (b ∷ bs)) (max_number + 1) = omega arith in
    m ∙ sym (cond-true (is_digit b) (min (decimal_from 0 (b ∷ bs)) (max_number + 1)) 0 h)
token_number kind n front rest (string s) = refl
token_number kind n front rest (slot h all s) = refl
token_number kind n front rest (sign i l) = sign_number front kind i

piece_number : (bs : List ℕ) (kind : Option TokenKind) (len n : ℕ) → IsPiece bs kind len n → IsSome kind → n ≡ number_in (take len bs)
piece_number bs None len n p some = absurd cc
piece_number bs (Some kind) len n p some = token_number kind n (take len bs) (drop len bs) p.is

-- what is cut off from a text
pub cut_number : (bs : List ℕ) (p : Piece) → 0 < length bs → piece bs ≡ Ok p → IsSome p.kind → p.number ≡ number_in (take p.len bs)
cut_number [] p some e is = absurd (omega arith)
cut_number (b ∷ bs) p some e is = let f : IsPiece (b ∷ bs) p.kind p.len p.number = subst (λ r. Fine (b ∷ bs) r) e (piece_fine b bs) in piece_number (b ∷ bs) p.kind p.len p.number f is
