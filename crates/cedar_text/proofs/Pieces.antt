-- The first piece from left to right is the blank or token of the grammar, and a refusal shows its fault.
use Rattle.std.proofs.Common.{◌≡◌, ◌≢◌, refl, sym, ap, subst, ◌∙◌, ℕ, zero, suc, ◌+◌, ◌≤◌, ◌<◌, Bool, true, false, cond, eqb, ltb, leb, ◌&&◌, ◌||◌, List, [], ◌∷◌, ◌++◌, length, take, drop, Option, Some, None, Result, Ok, Err, inl, inr, add-one, append_assoc, length-append, arith}
use Rattle.std.specs.Prelude.{encode_utf8, slice_index}
use Rattle.std.specs.List.{prefix_len, list_all}
use Rattle.std.proofs.lemmas.Bool.{cond_both, cond-true, cond-false, and_parts, and_from, and_left, and_right, or_from, or_left, or_cases, eqb-true, eqb-false, ne_eqb, lt-leb, lt-ltb}
use Rattle.std.proofs.lemmas.List.{take_at, drop_at}
use Rattle.cedar_text.specs.declared.token_kind.TokenKind.{TokenKind}
use Rattle.cedar_text.specs.declared.token_kind.TokenKind.TheVariants as k
use Rattle.cedar_text.specs.declared.piece.Piece.{Piece}
use Rattle.cedar_text.specs.Bytes.{is_letter, is_digit, is_word, goes_on_line, first, Stops}
use Rattle.cedar_text.specs.Blanks.{IsBlank, white, comment}
use Rattle.cedar_text.specs.Words.{word_kind}
use Rattle.cedar_text.specs.Numbers.{decimal_from, max_number}
use Rattle.cedar_text.specs.Strings.{IsString}
use Rattle.cedar_text.specs.Tokens.{IsToken, word, number, string, slot, sign}
use Rattle.cedar_text.specs.Faults.{IsUnclosed, unclosed, IsBadEscape, bad, IsTooLarge, large}
use Rattle.cedar_text.specs.Private.Lexing.{Refusal, BadCharacter, UnclosedString, BadEscape, NumberTooLarge, is_white_pair, is_white_triple, white_len, string_len, capped_decimal_from, long_sign, short_sign, skipped, lexed, begins_comment, number_of, number_at, string_of, slot_of, sign_of, sign_at, piece}
use Rattle.cedar_text.proofs.Runs.{run_of, IsRun, run_is, run_length, run_first}
use Rattle.cedar_text.proofs.Digits.{capped_small, capped_large, capped_again}
use Rattle.cedar_text.proofs.Strings.{StringIs, string_is, string_again}
use Rattle.cedar_text.proofs.White.{between, white_again, WhiteIs, white_is}
use Rattle.cedar_text.proofs.Signs.{no_null, long_fine, short_fine, sign_again}

-- ---- the tests in order

abbrev slot_tail : List ℕ → Result Piece Refusal
slot_tail bs = cond (eqb (first bs) 63) (slot_of (drop 1 bs)) (sign_at bs)

abbrev quote_tail : List ℕ → Result Piece Refusal
quote_tail bs = cond (eqb (first bs) 34) (string_of (string_len 0 (drop 1 bs))) (slot_tail bs)

abbrev digit_tail : List ℕ → Result Piece Refusal
digit_tail bs = cond (is_digit (first bs)) (number_at bs) (quote_tail bs)

abbrev letter_tail : List ℕ → Result Piece Refusal
letter_tail bs = cond (is_letter (first bs)) (Ok (lexed (word_kind (take (prefix_len is_word bs) bs)) (prefix_len is_word bs) 0)) (digit_tail bs)

abbrev line_tail : List ℕ → Result Piece Refusal
line_tail bs = cond (begins_comment bs) (Ok (skipped (prefix_len goes_on_line bs))) (letter_tail bs)

piece_white : (bs : List ℕ) (n : ℕ) → white_len bs ≡ n → 0 < n → piece bs ≡ Ok (skipped n)
unfolding piece
piece_white bs n e some = ap (λ (w : ℕ). cond (ltb 0 w) (Ok (skipped w)) (line_tail bs)) e ∙ cond-true (ltb 0 n) (Ok (skipped n)) (line_tail bs) (lt-ltb 0 n some)

piece_line : (bs : List ℕ) → white_len bs ≡ 0 → piece bs ≡ line_tail bs
unfolding piece
piece_line bs e = ap (λ (w : ℕ). cond (ltb 0 w) (Ok (skipped w)) (line_tail bs)) e

no_white : (b : ℕ) (bs : List ℕ) → 32 < b → b < 128 → white_len (b ∷ bs) ≡ 0
no_white b bs low high =
    let c = slice_index (b ∷ bs) 1 in
    let d = slice_index (b ∷ bs) 2 in
    let space : (eqb b 32 || (leb 9 b && leb b 13)) ≡ false = or_from (eqb b 32) (leb 9 b && leb b 13) (ne_eqb b 32 (λ e. omega arith)) (and_right (leb 9 b) (leb b 13) (lt-leb b 13 (omega arith))) in
    let pair : is_white_pair b c ≡ false = and_left (eqb b 0xC2) (eqb c 0x85 || eqb c 0xA0) (ne_eqb b 0xC2 (λ e. omega arith)) in
    cond-false (eqb b 32 || (leb 9 b && leb b 13)) 1 (cond (is_white_pair b c) 2 (cond (is_white_triple b c d) 3 0)) space ∙ cond-false (is_white_pair b c) 2 (cond (is_white_triple b c d) 3 0) pair
    ∙ cond-false (is_white_triple b c d) 3 0 (no_triple b c d high)
  where
    -- no byte below 128 begins white space of three bytes
    lead : (b x : ℕ) (p q : Bool) → eqb b x ≡ false → (eqb b x && p && q) ≡ false
    lead b x p q e = and_left (eqb b x && p) q (and_left (eqb b x) p e)

    no_triple : (b c d : ℕ) → b < 128 → is_white_triple b c d ≡ false
    no_triple b c d lt =
        let ogham = eqb b 0xE1 && eqb c 0x9A && eqb d 0x80 in
        let third = (leb 0x80 d && leb d 0x8A) || eqb d 0xA8 || eqb d 0xA9 || eqb d 0xAF in
        let general = eqb b 0xE2 && eqb c 0x80 && third in
        let mathematical = eqb b 0xE2 && eqb c 0x81 && eqb d 0x9F in
        let ideographic = eqb b 0xE3 && eqb c 0x80 && eqb d 0x80 in
        or_from (ogham || general || mathematical) ideographic
        (or_from (ogham || general) mathematical (or_from ogham general (lead b 0xE1 (eqb c 0x9A) (eqb d 0x80) (ne_eqb b 0xE1 (λ e. omega arith))) (lead b 0xE2 (eqb c 0x80) third (ne_eqb b 0xE2 (λ e. omega arith))))
        (lead b 0xE2 (eqb c 0x81) (eqb d 0x9F) (ne_eqb b 0xE2 (λ e. omega arith)))) (lead b 0xE3 (eqb c 0x80) (eqb d 0x80) (ne_eqb b 0xE3 (λ e. omega arith)))

pub letter_bounds : (b : ℕ) → is_letter b ≡ true → (65 ≤ b) × (b ≤ 122)
letter_bounds b h =
    elim (or_cases ((leb 97 b && leb b 122) || (leb 65 b && leb b 90)) (eqb b 95) h) [
      | inl g ↦ elim (or_cases (leb 97 b && leb b 122) (leb 65 b && leb b 90) g) [
        | inl p ↦ let q = between 97 b 122 p in (omega arith, omega arith)
        | inr p ↦ let q = between 65 b 90 p in (omega arith, omega arith)
      ]
      | inr e ↦ let q = eqb-true b 95 e in (omega arith, omega arith)
    ]

pub digit_bounds : (b : ℕ) → is_digit b ≡ true → (48 ≤ b) × (b ≤ 57)
digit_bounds b h = between 48 b 57 h

not_slash : (b : ℕ) (bs : List ℕ) → b ≢ 47 → line_tail (b ∷ bs) ≡ letter_tail (b ∷ bs)
not_slash b bs ne = cond-false (begins_comment (b ∷ bs)) (Ok (skipped (prefix_len goes_on_line (b ∷ bs)))) (letter_tail (b ∷ bs)) (and_left (eqb b 47) (eqb (slice_index (b ∷ bs) 1) 47) (ne_eqb b 47 ne))

digit_no_letter : (b : ℕ) → is_digit b ≡ true → is_letter b ≡ false
digit_no_letter b h =
    let d = digit_bounds b h in
    or_from _ _ (or_from _ _ (and_left _ _ (lt-leb 97 b (omega arith))) (and_left _ _ (lt-leb 65 b (omega arith)))) (ne_eqb b 95 (λ e. omega arith))

-- ---- a blank or a token of the grammar is the first piece

pub blank_again : (front rest : List ℕ) → IsBlank front rest → piece (front ++ rest) ≡ Ok (skipped (length front))
blank_again _ rest (white {c = c} w) = let h = white_again c rest w in piece_white (encode_utf8 c ++ rest) h.0 h.2.0 h.1 ∙ ap (λ (n : ℕ). Ok (skipped n)) (sym h.2.1)
blank_again _ rest (comment {body = body} all stops) =
    let n : prefix_len goes_on_line (47 ∷ 47 ∷ (body ++ rest)) ≡ length (47 ∷ 47 ∷ body) = run_of goes_on_line (47 ∷ 47 ∷ body) rest all stops in
    piece_line (47 ∷ 47 ∷ (body ++ rest)) refl ∙ ap (λ (m : ℕ). Ok (skipped m)) n

word_again : (b : ℕ) (bs rest : List ℕ) → is_letter b ≡ true → list_all is_word bs ≡ true → Stops is_word rest
    → piece ((b ∷ bs) ++ rest) ≡ Ok (lexed (word_kind (b ∷ bs)) (length (b ∷ bs)) 0)
word_again b bs rest h all stops =
    let d = letter_bounds b h in
    let n = run_of is_word (b ∷ bs) rest (and_from _ _ (or_left (is_letter b) (is_digit b) h) all) stops in
    piece_line (b ∷ (bs ++ rest)) (no_white b (bs ++ rest) (omega arith) (omega arith))
    ∙ not_slash b (bs ++ rest) (λ e. omega arith) ∙ cond-true _ _ _ h
    ∙ ap (λ (m : ℕ). Ok (lexed (word_kind (take m (b ∷ (bs ++ rest)))) m 0)) n
    ∙ ap (λ (w : List ℕ). Ok (lexed (word_kind w) (length (b ∷ bs)) 0)) (take_at (b ∷ bs) rest (length (b ∷ bs)) refl)

digits_reach : (b : ℕ) (bs rest : List ℕ) → is_digit b ≡ true → list_all is_digit bs ≡ true → Stops is_digit rest
    → piece ((b ∷ bs) ++ rest) ≡ number_of (length (b ∷ bs)) (capped_decimal_from 0 (b ∷ bs))
digits_reach b bs rest h all stops =
    let d = digit_bounds b h in
    let n = run_of is_digit (b ∷ bs) rest (and_from _ _ h all) stops in
    piece_line (b ∷ (bs ++ rest)) (no_white b (bs ++ rest) (omega arith) (omega arith))
    ∙ not_slash b (bs ++ rest) (λ e. omega arith) ∙ cond-false _ _ _ (digit_no_letter b h) ∙ cond-true _ _ _ h
    ∙ ap (λ (m : ℕ). number_of m (capped_decimal_from 0 (take m (b ∷ (bs ++ rest))))) n
    ∙ ap (λ (w : List ℕ). number_of (length (b ∷ bs)) (capped_decimal_from 0 w)) (take_at (b ∷ bs) rest (length (b ∷ bs)) refl)

number_again : (b : ℕ) (bs rest : List ℕ) → is_digit b ≡ true → list_all is_digit bs ≡ true → Stops is_digit rest → decimal_from 0 (b ∷ bs) ≤ max_number
    → piece ((b ∷ bs) ++ rest) ≡ Ok (lexed k.Number (length (b ∷ bs)) (decimal_from 0 (b ∷ bs)))
number_again b bs rest h all stops le =
    let v = capped_again (b ∷ bs) le in
    digits_reach b bs rest h all stops ∙ cond-false _ _ _ v.1 ∙ ap (λ (x : ℕ). Ok (lexed k.Number (length (b ∷ bs)) x)) v.0

strings_again : (bs rest : List ℕ) → IsString bs → piece ((34 ∷ bs ++ 34 ∷ []) ++ rest) ≡ Ok (lexed k.String (length (34 ∷ bs ++ 34 ∷ [])) 0)
strings_again bs rest s =
    let e : (bs ++ 34 ∷ []) ++ rest ≡ bs ++ 34 ∷ rest = append_assoc bs (34 ∷ []) rest in
    let n : length bs + 1 + 1 ≡ suc (length (bs ++ 34 ∷ [])) = omega (arith, length-append bs (34 ∷ [])) in
    piece_line (34 ∷ ((bs ++ 34 ∷ []) ++ rest)) refl ∙ ap (λ (xs : List ℕ). string_of (string_len 0 xs)) e ∙ ap string_of (string_again bs rest s) ∙ ap (λ (m : ℕ). Ok (lexed k.String m 0)) n

slot_again : (b : ℕ) (bs rest : List ℕ) → is_letter b ≡ true → list_all is_word bs ≡ true → Stops is_word rest
    → piece ((63 ∷ b ∷ bs) ++ rest) ≡ Ok (lexed k.Slot (length (63 ∷ b ∷ bs)) 0)
slot_again b bs rest h all stops =
    let n = run_of is_word (b ∷ bs) rest (and_from _ _ (or_left (is_letter b) (is_digit b) h) all) stops in
    piece_line (63 ∷ b ∷ (bs ++ rest)) refl ∙ cond-true (is_letter b) (Ok (lexed k.Slot (prefix_len is_word (b ∷ (bs ++ rest)) + 1) 0)) (Err BadCharacter) h
    ∙ ap (λ (m : ℕ). Ok (lexed k.Slot (m + 1) 0)) n ∙ ap (λ (m : ℕ). Ok (lexed k.Slot m 0)) (add-one (length (b ∷ bs)))

pub token_again : (kind : TokenKind) (n : ℕ) (front rest : List ℕ) → IsToken kind n front rest → piece (front ++ rest) ≡ Ok (lexed kind (length front) n)
token_again kind n front rest (word {b = b} {bs = bs} h all stops) = word_again b bs rest h all stops
token_again kind n front rest (number {b = b} {bs = bs} h all stops le) = number_again b bs rest h all stops le
token_again kind n front rest (string {bs = bs} s) = strings_again bs rest s
token_again kind n front rest (slot {b = b} {bs = bs} h all stops) = slot_again b bs rest h all stops
token_again kind n front rest (sign i l) = sign_again front rest kind i l

-- ---- the first piece is a blank or a token of the grammar, and a refusal shows its fault

abbrev pub PieceIs : Option TokenKind → ℕ → List ℕ → List ℕ → Type 0
PieceIs None n front rest = IsBlank front rest
PieceIs (Some kind) n front rest = IsToken kind n front rest

pub record IsPiece (bs : List ℕ) (kind : Option TokenKind) (len n : ℕ) : Type 0 where
  pub some : 0 < len
  pub within : len ≤ length bs
  pub is : PieceIs kind n (take len bs) (drop len bs)

abbrev pub Fine : List ℕ → Result Piece Refusal → Type 0
Fine bs (Ok p) = IsPiece bs p.kind p.len p.number
Fine bs (Err BadCharacter) = (first bs ≢ 34) × (is_digit (first bs) ≡ false)
Fine bs (Err UnclosedString) = IsUnclosed bs
Fine bs (Err BadEscape) = IsBadEscape bs
Fine bs (Err NumberTooLarge) = IsTooLarge bs

-- a piece that is written out as its front and its rest
fine_at : (front rest : List ℕ) (kind : Option TokenKind) (len n : ℕ) → length front ≡ len → 0 < len → PieceIs kind n front rest → IsPiece (front ++ rest) kind len n
fine_at front rest kind len n e some is = record {
  some = some;
  within = omega (arith, length-append front rest);
  is = subst (λ (xs : List ℕ). PieceIs kind n xs (drop len (front ++ rest))) (sym (take_at front rest len e)) (subst (λ (xs : List ℕ). PieceIs kind n front xs) (sym (drop_at front rest len e)) is);
}

sign_fine : (a : ℕ) (bs : List ℕ) → a ≢ 34 → is_digit a ≡ false → (l s : Option TokenKind) → long_sign a (slice_index (a ∷ bs) 1) ≡ l → short_sign a ≡ s → Fine (a ∷ bs) (sign_of l s)
sign_fine a bs q d None None e f = (q, d)
sign_fine a bs q d None (Some kind) e f = let i = short_fine a kind bs e f in fine_at (a ∷ []) bs (Some kind) 1 0 refl (omega arith) (sign i.0 i.1)
sign_fine a [] q d (Some kind) s e f = absurd (no_null a kind e)
sign_fine a (b ∷ bs) q d (Some kind) s e f = let i = long_fine a b kind bs e in fine_at (a ∷ b ∷ []) bs (Some kind) 2 0 refl (omega arith) (sign i.0 i.1)

-- a slot, after its `?`
slot_run : (b : ℕ) (bs : List ℕ) (m : ℕ) → is_letter b ≡ true → IsRun is_word bs m → IsPiece (63 ∷ b ∷ bs) (Some k.Slot) (suc (suc m)) 0
slot_run b bs m h r =
    subst (λ (xs : List ℕ). IsPiece (63 ∷ b ∷ xs) (Some k.Slot) (suc (suc m)) 0) r.whole
    (fine_at (63 ∷ b ∷ take m bs) (drop m bs) (Some k.Slot) (suc (suc m)) 0 (ap (λ (i : ℕ). suc (suc i)) (run_length is_word bs m r)) (omega arith) (slot h r.passes r.stops))

slot_fine : (bs : List ℕ) → Fine (63 ∷ bs) (slot_of bs)
slot_fine [] = (λ e. omega arith, refl)
slot_fine (b ∷ bs) =
    cond_both (is_letter b) (Ok (lexed k.Slot (prefix_len is_word (b ∷ bs) + 1) 0)) (Err BadCharacter) (Fine (63 ∷ b ∷ bs))
    (λ h. let e : suc (suc (prefix_len is_word bs)) ≡ prefix_len is_word (b ∷ bs) + 1 =
    sym (ap (λ (n : ℕ). n + 1) (run_first is_word b bs (or_left (is_letter b) (is_digit b) h)) ∙ add-one (suc (prefix_len is_word bs))) in
    subst (λ (n : ℕ). IsPiece (63 ∷ b ∷ bs) (Some k.Slot) n 0) e (slot_run b bs (prefix_len is_word bs) h (run_is is_word bs)))
    (λ _. (λ e. omega arith, refl))

mark_fine : (a : ℕ) (bs : List ℕ) → a ≢ 34 → is_digit a ≡ false → Fine (a ∷ bs) (slot_tail (a ∷ bs))
mark_fine a bs q d =
    cond_both (eqb a 63) (slot_of bs) (sign_at (a ∷ bs)) (Fine (a ∷ bs)) (λ e. subst (λ (x : ℕ). Fine (x ∷ bs) (slot_of bs)) (sym (eqb-true a 63 e)) (slot_fine bs))
    (λ _. sign_fine a bs q d (long_sign a (slice_index (a ∷ bs) 1)) (short_sign a) refl refl)

string_fine : (bs : List ℕ) (r : Result ℕ Refusal) → StringIs bs r → Fine (34 ∷ bs) (string_of r)
string_fine bs (Ok n) h =
    let e : 34 ∷ bs ≡ (34 ∷ h.0 ++ 34 ∷ []) ++ h.1 = ap (λ (xs : List ℕ). 34 ∷ xs) (h.2 ∙ sym (append_assoc h.0 (34 ∷ []) h.1)) in
    let m : length (34 ∷ h.0 ++ 34 ∷ []) ≡ n + 1 = (let q = h.3 in omega (arith, length-append h.0 (34 ∷ []))) in
    subst (λ (xs : List ℕ). IsPiece xs (Some k.String) (n + 1) 0) (sym e) (fine_at (34 ∷ h.0 ++ 34 ∷ []) h.1 (Some k.String) (n + 1) 0 m (omega arith) (string h.4))
string_fine bs (Err UnclosedString) h = unclosed h
string_fine bs (Err BadEscape) h = subst (λ (xs : List ℕ). IsBadEscape (34 ∷ xs)) (sym h.2) (bad h.0 h.1 h.3 h.4)
string_fine bs (Err BadCharacter) h = absurd h
string_fine bs (Err NumberTooLarge) h = absurd h

quote_fine : (a : ℕ) (bs : List ℕ) → is_digit a ≡ false → Fine (a ∷ bs) (quote_tail (a ∷ bs))
quote_fine a bs d =
    cond_both (eqb a 34) (string_of (string_len 0 bs)) (slot_tail (a ∷ bs)) (λ r. Fine (a ∷ bs) r)
    (λ e. subst (λ (x : ℕ). Fine (x ∷ bs) (string_of (string_len 0 bs))) (sym (eqb-true a 34 e)) (string_fine bs (string_len 0 bs) (string_is bs)))
    (λ e. mark_fine a bs (eqb-false a 34 e) d)

number_fine : (b : ℕ) (xs more : List ℕ) (v : ℕ) → is_digit b ≡ true → list_all is_digit xs ≡ true → Stops is_digit more → v ≡ capped_decimal_from 0 (b ∷ xs) → Fine ((b ∷ xs) ++ more) (number_of (suc (length xs)) v)
number_fine b xs more v d all stops e =
    subst (λ (w : ℕ). Fine ((b ∷ xs) ++ more) (number_of (suc (length xs)) w)) (sym e)
    (cond_both (ltb max_number (capped_decimal_from 0 (b ∷ xs))) (Err NumberTooLarge) (Ok (lexed k.Number (suc (length xs)) (capped_decimal_from 0 (b ∷ xs)))) (λ r. Fine ((b ∷ xs) ++ more) r)
    (λ h. large b xs more d all stops (capped_large (b ∷ xs) h))
    (λ h. let c = capped_small (b ∷ xs) h in
    subst (λ (w : ℕ). IsPiece ((b ∷ xs) ++ more) (Some k.Number) (suc (length xs)) w) (sym c.0)
    (fine_at (b ∷ xs) more (Some k.Number) (suc (length xs)) (decimal_from 0 (b ∷ xs)) refl (omega arith) (number d all stops c.1))))

false_is : false ≡ true → ⊥
false_is h = absurd cc

digits_fine : (b : ℕ) (bs : List ℕ) (m : ℕ) → is_digit b ≡ true → IsRun is_digit bs m → Fine (b ∷ bs) (number_of (suc m) (capped_decimal_from 0 (b ∷ take m bs)))
digits_fine b bs m d r =
    subst (λ (xs : List ℕ). Fine (b ∷ xs) (number_of (suc m) (capped_decimal_from 0 (b ∷ take m bs)))) r.whole
    (subst (λ (i : ℕ). Fine ((b ∷ take m bs) ++ drop m bs) (number_of (suc i) (capped_decimal_from 0 (b ∷ take m bs)))) (run_length is_digit bs m r)
    (number_fine b (take m bs) (drop m bs) (capped_decimal_from 0 (b ∷ take m bs)) d r.passes r.stops refl))

digit_fine : (b : ℕ) (bs : List ℕ) → Fine (b ∷ bs) (digit_tail (b ∷ bs))
digit_fine b bs =
    cond_both (is_digit b) (number_at (b ∷ bs)) (quote_tail (b ∷ bs)) (λ r. Fine (b ∷ bs) r)
    (λ e. subst (λ (n : ℕ). Fine (b ∷ bs) (number_of n (capped_decimal_from 0 (take n (b ∷ bs))))) (sym (run_first is_digit b bs e)) (digits_fine b bs (prefix_len is_digit bs) e (run_is is_digit bs)))
    (λ e. quote_fine b bs e)

word_fine : (b : ℕ) (bs : List ℕ) (m : ℕ) → is_letter b ≡ true → IsRun is_word bs m → IsPiece (b ∷ bs) (Some (word_kind (b ∷ take m bs))) (suc m) 0
word_fine b bs m h r =
    subst (λ (xs : List ℕ). IsPiece (b ∷ xs) (Some (word_kind (b ∷ take m bs))) (suc m) 0) r.whole
    (fine_at (b ∷ take m bs) (drop m bs) (Some (word_kind (b ∷ take m bs))) (suc m) 0 (ap suc (run_length is_word bs m r)) (omega arith) (word h r.passes r.stops))

letter_fine : (b : ℕ) (bs : List ℕ) → Fine (b ∷ bs) (letter_tail (b ∷ bs))
letter_fine b bs =
    cond_both (is_letter b) (Ok (lexed (word_kind (take (prefix_len is_word (b ∷ bs)) (b ∷ bs))) (prefix_len is_word (b ∷ bs)) 0)) (digit_tail (b ∷ bs)) (λ r. Fine (b ∷ bs) r)
    (λ e. subst (λ (n : ℕ). IsPiece (b ∷ bs) (Some (word_kind (take n (b ∷ bs)))) n 0) (sym (run_first is_word b bs (or_left (is_letter b) (is_digit b) e))) (word_fine b bs (prefix_len is_word bs) e (run_is is_word bs)))
    (λ e. digit_fine b bs)

comment_fine : (bs : List ℕ) (m : ℕ) → IsRun goes_on_line bs m → IsPiece (47 ∷ 47 ∷ bs) None (suc (suc m)) 0
comment_fine bs m r =
    subst (λ (xs : List ℕ). IsPiece (47 ∷ 47 ∷ xs) None (suc (suc m)) 0) r.whole
    (fine_at (47 ∷ 47 ∷ take m bs) (drop m bs) None (suc (suc m)) 0 (ap (λ (i : ℕ). suc (suc i)) (run_length goes_on_line bs m r)) (omega arith) (comment r.passes r.stops))

slashes_fine : (a b : ℕ) (bs : List ℕ) → a ≡ 47 → b ≡ 47 → Fine (a ∷ b ∷ bs) (Ok (skipped (prefix_len goes_on_line (a ∷ b ∷ bs))))
slashes_fine a b bs e f =
    let n : prefix_len goes_on_line (47 ∷ 47 ∷ bs) ≡ suc (suc (prefix_len goes_on_line bs)) = run_first goes_on_line 47 (47 ∷ bs) refl ∙ ap suc (run_first goes_on_line 47 bs refl) in
    let h : Fine (47 ∷ 47 ∷ bs) (Ok (skipped (prefix_len goes_on_line (47 ∷ 47 ∷ bs)))) =
    subst (λ (m : ℕ). IsPiece (47 ∷ 47 ∷ bs) None m 0) (sym n) (comment_fine bs (prefix_len goes_on_line bs) (run_is goes_on_line bs)) in
    subst (λ (x : ℕ). Fine (x ∷ b ∷ bs) (Ok (skipped (prefix_len goes_on_line (x ∷ b ∷ bs))))) (sym e)
    (subst (λ (y : ℕ). Fine (47 ∷ y ∷ bs) (Ok (skipped (prefix_len goes_on_line (47 ∷ y ∷ bs))))) (sym f) h)

line_by : (a : ℕ) (bs : List ℕ) → begins_comment (a ∷ bs) ≡ true → Fine (a ∷ bs) (Ok (skipped (prefix_len goes_on_line (a ∷ bs))))
line_by a [] e = let q = and_parts (eqb a 47) false e in absurd (false_is q.1)
line_by a (b ∷ bs) e = let q = and_parts (eqb a 47) (eqb b 47) e in slashes_fine a b bs (eqb-true a 47 q.0) (eqb-true b 47 q.1)

line_fine : (a : ℕ) (bs : List ℕ) → Fine (a ∷ bs) (line_tail (a ∷ bs))
line_fine a bs =
    cond_both (begins_comment (a ∷ bs)) (Ok (skipped (prefix_len goes_on_line (a ∷ bs)))) (letter_tail (a ∷ bs)) (λ r. Fine (a ∷ bs) r)
    (line_by a bs) (λ e. letter_fine a bs)

-- white space, or what is there in place of it
white_piece : (bs : List ℕ) (n : ℕ) → WhiteIs bs (suc n) → IsPiece bs None (suc n) 0
white_piece bs n h = subst (λ (xs : List ℕ). IsPiece xs None (suc n) 0) (sym h.3) (fine_at (encode_utf8 h.0) h.1 None (suc n) 0 h.4 (omega arith) (white h.2))

white_fine : (bs : List ℕ) (n : ℕ) (r : Result Piece Refusal) → WhiteIs bs n → Fine bs r → Fine bs (cond (ltb 0 n) (Ok (skipped n)) r)
white_fine bs zero r w f = f
white_fine bs (suc n) r w f = subst (λ (t : Bool). Fine bs (cond t (Ok (skipped (suc n))) r)) (sym (lt-ltb 0 (suc n) (omega arith))) (white_piece bs n w)

pub piece_fine : (a : ℕ) (bs : List ℕ) → Fine (a ∷ bs) (piece (a ∷ bs))
unfolding piece
piece_fine a bs = white_fine (a ∷ bs) (white_len (a ∷ bs)) (line_tail (a ∷ bs)) (white_is a bs) (line_fine a bs)
