-- A piece ends where a character does.
use Rattle.std.proofs.Common.{◌≡◌, refl, sym, ap, subst, ◌∙◌, ℕ, ◌+◌, ◌<◌, Bool, true, false, eqb, List, [], ◌∷◌, ◌++◌, length, take, drop, get_or, Option, Some, None, Ok, inl, inr, append_assoc, length-append, length-take, arith}
use Rattle.std.specs.Prelude.{encode_utf8}
use Rattle.std.specs.Str.{IsUtf8, IsCharBoundary}
use Rattle.std.specs.List.{list_all}
use Rattle.std.specs.Char.{len_utf8}
use Rattle.std.proofs.lemmas.Bool.{and_parts, or_left, or_cases, not-false, eqb-true}
use Rattle.std.proofs.lemmas.List.{append-nil, take-append-drop, get_or_at}
use Rattle.std.proofs.lemmas.Str.{IsCharBoundary-after_ascii, IsCharBoundary-before_ascii, IsCharBoundary-end, IsCharBoundary-past_char, length-encode}
use Rattle.cedar_text.specs.declared.token_kind.TokenKind.{TokenKind}
use Rattle.cedar_text.specs.declared.piece.Piece.{Piece}
use Rattle.cedar_text.specs.Bytes.{is_letter, is_digit, is_word, ends_line, goes_on_line, Stops}
use Rattle.cedar_text.specs.Blanks.{IsBlank, white, comment}
use Rattle.cedar_text.specs.Signs.{IsSign}
use Rattle.cedar_text.specs.Tokens.{IsToken, word, number, string, slot, sign}
use Rattle.cedar_text.specs.Private.Lexing.{piece}
use Rattle.cedar_text.proofs.Signs.{sign_is}
use Rattle.cedar_text.proofs.Pieces.{PieceIs, IsPiece, Fine, piece_fine, letter_bounds, digit_bounds}

-- the last byte is a character of ASCII
abbrev pub EndsAscii : List ℕ → Type 0
EndsAscii front = (init : List ℕ) × (b : ℕ) × (front ≡ init ++ b ∷ []) × (b < 128)

pub ends_more : (a : ℕ) (front : List ℕ) → EndsAscii front → EndsAscii (a ∷ front)
ends_more a front e = (a ∷ e.0, e.1, ap (λ (xs : List ℕ). a ∷ xs) e.2, e.3)

pub run_ends : (p : ℕ → Bool) (b : ℕ) (bs : List ℕ) → ((x : ℕ) → p x ≡ true → x < 128) → p b ≡ true → list_all p bs ≡ true → EndsAscii (b ∷ bs)
run_ends p b [] small h all = ([], b, refl, small b h)
run_ends p b (x ∷ bs) small h all = let q = and_parts (p x) (list_all p bs) all in ends_more b (x ∷ bs) (run_ends p x bs small q.0 q.1)

word_ascii : (b : ℕ) → is_word b ≡ true → b < 128
word_ascii b h = elim (or_cases (is_letter b) (is_digit b) h) [ inl e ↦ let q = letter_bounds b e in omega arith | inr e ↦ let q = digit_bounds b e in omega arith ]

digit_ascii : (b : ℕ) → is_digit b ≡ true → b < 128
digit_ascii b h = let q = digit_bounds b h in omega arith

sign_ends : (front : List ℕ) (kind : TokenKind) → IsSign front kind → EndsAscii front
sign_ends front kind i = elim (sign_is front kind i) [ inl w ↦ ([], w.0, w.1, w.3) | inr w ↦ (w.0 ∷ [], w.1, w.2, w.5) ]

token_ends : (kind : TokenKind) (n : ℕ) (front rest : List ℕ) → IsToken kind n front rest → EndsAscii front
token_ends kind n front rest (word {b = b} {bs = bs} h all s) = run_ends is_word b bs word_ascii (or_left (is_letter b) (is_digit b) h) all
token_ends kind n front rest (number {b = b} {bs = bs} h all s l) = run_ends is_digit b bs digit_ascii h all
token_ends kind n front rest (string {bs = bs} s) = (34 ∷ bs, 34, refl, omega arith)
token_ends kind n front rest (slot {b = b} {bs = bs} h all s) = ends_more 63 (b ∷ bs) (run_ends is_word b bs word_ascii (or_left (is_letter b) (is_digit b) h) all)
token_ends kind n front rest (sign i l) = sign_ends front kind i

pub after_ascii : (init rest : List ℕ) (b : ℕ) → b < 128 → IsUtf8 ((init ++ b ∷ []) ++ rest) → IsCharBoundary ((init ++ b ∷ []) ++ rest) (length (init ++ b ∷ []))
after_ascii init rest b small u =
    let e = append_assoc init (b ∷ []) rest in
    let there : get_or ((init ++ b ∷ []) ++ rest) (length init) 0 ≡ b = ap (λ (xs : List ℕ). get_or xs (length init) 0) e ∙ get_or_at init b rest 0 (length init) refl in
    let n : length init + 1 ≡ length (init ++ b ∷ []) = omega (arith, length-append init (b ∷ [])) in
    subst (IsCharBoundary ((init ++ b ∷ []) ++ rest)) n
    (IsCharBoundary-after_ascii ((init ++ b ∷ []) ++ rest) (length init) u (omega (arith, length-append (init ++ b ∷ []) rest, length-append init (b ∷ []))) (omega arith))

pub token_boundary : (kind : TokenKind) (n : ℕ) (front rest : List ℕ) → IsToken kind n front rest → IsUtf8 (front ++ rest) → IsCharBoundary (front ++ rest) (length front)
token_boundary kind n front rest i u =
    let e = token_ends kind n front rest i in
    subst (λ (xs : List ℕ). IsCharBoundary (xs ++ rest) (length xs)) (sym e.2) (after_ascii e.0 rest e.1 e.3 (subst (λ (xs : List ℕ). IsUtf8 (xs ++ rest)) e.2 u))

line_end : (r : ℕ) → goes_on_line r ≡ false → r < 128
line_end r h = elim (or_cases (eqb r 10) (eqb r 13) (not-false (ends_line r) h)) [ inl e ↦ let q = eqb-true r 10 e in omega arith | inr e ↦ let q = eqb-true r 13 e in omega arith ]

line_boundary : (front rest : List ℕ) → Stops goes_on_line rest → IsCharBoundary (front ++ rest) (length front)
line_boundary front [] s = subst (λ (xs : List ℕ). IsCharBoundary xs (length front)) (sym (append-nil front)) (IsCharBoundary-end front)
line_boundary front (r ∷ rest) s =
    let v = get_or_at front r rest 0 (length front) refl in
    let lt = line_end r s in
    IsCharBoundary-before_ascii (front ++ r ∷ rest) (length front) (omega (arith, length-append front (r ∷ rest))) (omega arith)

pub blank_boundary : (front rest : List ℕ) → IsBlank front rest → IsUtf8 (front ++ rest) → IsCharBoundary (front ++ rest) (length front)
blank_boundary front rest (white {c = c} w) u =
    subst (λ (n : ℕ). IsCharBoundary (encode_utf8 c ++ rest) n) (let e : 0 + len_utf8 c ≡ length (encode_utf8 c) = omega (arith, length-encode c) in e)
    (IsCharBoundary-past_char (encode_utf8 c ++ rest) rest 0 c (omega arith) u refl)
blank_boundary front rest (comment {body = body} h s) u = line_boundary (47 ∷ 47 ∷ body) rest s

boundary_at : (kind : Option TokenKind) (n : ℕ) (front rest : List ℕ) → PieceIs kind n front rest → IsUtf8 (front ++ rest) → IsCharBoundary (front ++ rest) (length front)
boundary_at None n front rest h u = blank_boundary front rest h u
boundary_at (Some kind) n front rest h u = token_boundary kind n front rest h u

piece_boundary : (bs : List ℕ) (kind : Option TokenKind) (len n : ℕ) → IsPiece bs kind len n → IsUtf8 bs → IsCharBoundary bs len
piece_boundary bs kind len n p u =
    let e = take-append-drop len bs in
    let l : length (take len bs) ≡ len = length-take len bs ∙ (let w = p.within in omega arith) in
    subst (λ (i : ℕ). IsCharBoundary bs i) l
    (subst (λ (xs : List ℕ). IsCharBoundary xs (length (take len bs))) e (boundary_at kind n (take len bs) (drop len bs) p.is (subst IsUtf8 (sym e) u)))

pub cut_boundary : (bs : List ℕ) (p : Piece) → 0 < length bs → piece bs ≡ Ok p → IsUtf8 bs → IsCharBoundary bs p.len
cut_boundary [] p some e u = absurd (omega arith)
cut_boundary (b ∷ bs) p some e u = let f : IsPiece (b ∷ bs) p.kind p.len p.number = subst (λ r. Fine (b ∷ bs) r) e (piece_fine b bs) in piece_boundary (b ∷ bs) p.kind p.len p.number f u
