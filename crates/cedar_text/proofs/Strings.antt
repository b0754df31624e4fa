-- The string that the reader counts is the one of the grammar, and a refusal shows its fault.
use Rattle.std.proofs.Common.{◌≡◌, ◌≢◌, refl, sym, ap, subst, ◌∙◌, ℕ, zero, suc, ◌+◌, ◌≤◌, true, false, cond, eqb, List, [], ◌∷◌, ◌++◌, length, Option, Some, None, Result, Ok, Err, append_assoc, length-append, arith}
use Rattle.std.specs.List.{list_all}
use Rattle.std.proofs.lemmas.Bool.{cond_both, cond-false, and_parts, eqb-true, eqb-false, ne_eqb}
use Rattle.std.proofs.lemmas.List.{drop_at}
use Rattle.cedar_text.specs.declared.letter.Letter.{Letter}
use Rattle.cedar_text.specs.Bytes.{is_hex}
use Rattle.cedar_text.specs.Strings.{IsEscape, short, star, byte, character, IsString, empty, plain, escape, IsOpen, nothing, lone, other, pair}
use Rattle.cedar_text.specs.Private.Lexing.{Refusal, BadCharacter, UnclosedString, BadEscape, NumberTooLarge, further, no_escape, escaped, escape_len, string_len}
use Rattle.cedar_text.proofs.Escapes.{EscapeIs, escape_is, escape_again, no_escape_is}
use Rattle.cedar_text.proofs.Passing.{passed, further_further}

-- ---- what is counted is a string

abbrev NoEscape : List ℕ → Type 0
NoEscape more = (front rest : List ℕ) (letter : Letter) → more ≡ front ++ rest → IsEscape front letter → ⊥

-- what follows the opening quote
abbrev pub StringIs : List ℕ → Result ℕ Refusal → Type 0
StringIs xs (Ok n) = (inner rest : List ℕ) × (xs ≡ inner ++ 34 ∷ rest) × (n ≡ length inner + 1) × IsString inner
StringIs xs (Err UnclosedString) = IsOpen xs
StringIs xs (Err BadEscape) = (inner more : List ℕ) × (xs ≡ inner ++ 92 ∷ more) × IsString inner × NoEscape more
StringIs xs (Err BadCharacter) = ⊥
StringIs xs (Err NumberTooLarge) = ⊥

plain_more : (b : ℕ) (xs : List ℕ) (r : Result ℕ Refusal) → b ≢ 34 → b ≢ 92 → StringIs xs r → StringIs (b ∷ xs) (further 1 r)
plain_more b xs (Ok n) q s h = (b ∷ h.0, h.1, ap (λ (ys : List ℕ). b ∷ ys) h.2, (let e = h.3 in omega arith), plain q s h.4)
plain_more b xs (Err UnclosedString) q s h = other q s h
plain_more b xs (Err BadEscape) q s h = (b ∷ h.0, h.1, ap (λ (ys : List ℕ). b ∷ ys) h.2, plain q s h.3, h.4)
plain_more b xs (Err BadCharacter) q s h = h
plain_more b xs (Err NumberTooLarge) q s h = h

hex_plain : (b : ℕ) → is_hex b ≡ true → (b ≢ 34) × (b ≢ 92)
hex_plain b h = (λ e. not_hex (subst (λ (x : ℕ). is_hex x ≡ true) e h), λ e. not_hex (subst (λ (x : ℕ). is_hex x ≡ true) e h))
  where
    not_hex : false ≡ true → ⊥
    not_hex h = absurd cc

open_digits : (digits xs : List ℕ) → list_all is_hex digits ≡ true → IsOpen xs → IsOpen (digits ++ xs)
open_digits [] xs h o = o
open_digits (d ∷ digits) xs h o =
    let p = and_parts (is_hex d) (list_all is_hex digits) h in
    let q = hex_plain d p.0 in
    other q.0 q.1 (open_digits digits xs p.1 o)

open_escape : (front xs : List ℕ) (letter : Letter) → IsEscape front letter → IsOpen xs → IsOpen (92 ∷ front ++ xs)
open_escape front xs letter (short s) o = pair o
open_escape front xs letter star o = pair o
open_escape front xs letter (byte {a = a} {b = b} h le) o = pair (open_digits (a ∷ b ∷ []) xs h o)
open_escape front xs letter (character digits h low high s) o =
    let inner = open_digits digits (125 ∷ xs) h (other (λ e. omega arith) (λ e. omega arith) o) in
    pair (other (λ e. omega arith) (λ e. omega arith) (subst IsOpen (sym (append_assoc digits (125 ∷ []) xs)) inner))

escape_more : (front xs : List ℕ) (letter : Letter) (r : Result ℕ Refusal) → IsEscape front letter → StringIs xs r → StringIs (92 ∷ front ++ xs) (further (1 + length front) r)
escape_more front xs letter (Ok n) i h =
    (92 ∷ front ++ h.0, h.1, ap (λ (ys : List ℕ). 92 ∷ front ++ ys) h.2 ∙ ap (λ (ys : List ℕ). 92 ∷ ys) (sym (append_assoc front h.0 (34 ∷ h.1))), (let e = h.3 in omega (arith, length-append front h.0)), escape i h.4)
escape_more front xs letter (Err UnclosedString) i h = open_escape front xs letter i h
escape_more front xs letter (Err BadEscape) i h =
    (92 ∷ front ++ h.0, h.1, ap (λ (ys : List ℕ). 92 ∷ front ++ ys) h.2 ∙ ap (λ (ys : List ℕ). 92 ∷ ys) (sym (append_assoc front h.0 (92 ∷ h.1))), escape i h.3, h.4)
escape_more front xs letter (Err BadCharacter) i h = h
escape_more front xs letter (Err NumberTooLarge) i h = h

-- no escape stands after a backslash
none_more : (bs : List ℕ) → NoEscape bs → StringIs (92 ∷ bs) (further 1 (no_escape bs))
none_more [] h = lone
none_more (b ∷ bs) h = ([], b ∷ bs, refl, empty, h)

-- the escape that stands after a backslash
found_more : (bs front rest : List ℕ) (letter : Letter) (n : ℕ) → bs ≡ front ++ rest → length front ≡ n → IsEscape front letter → StringIs rest (string_len 0 rest) → StringIs (92 ∷ bs) (further 1 (string_len n bs))
found_more bs front rest letter n e l i h =
    let le : length front ≤ length (front ++ rest) = omega (arith, length-append front rest) in
    let there : string_len (length front) (front ++ rest) ≡ further (length front) (string_len 0 rest) =
    passed (length front) (front ++ rest) le ∙ ap (λ (xs : List ℕ). further (length front) (string_len 0 xs)) (drop_at front rest (length front) refl) in
    let more : StringIs (92 ∷ front ++ rest) (further 1 (string_len (length front) (front ++ rest))) =
    subst (StringIs (92 ∷ front ++ rest)) (sym (ap (further 1) there ∙ further_further 1 (length front) (string_len 0 rest))) (escape_more front rest letter (string_len 0 rest) i h) in
    subst (λ (xs : List ℕ). StringIs (92 ∷ xs) (further 1 (string_len n xs))) (sym e) (subst (λ (k : ℕ). StringIs (92 ∷ front ++ rest) (further 1 (string_len k (front ++ rest)))) l more)

backslash_more : (bs : List ℕ) (found : Option ℕ) → escape_len bs ≡ found → EscapeIs bs found → ((rest : List ℕ) → length rest ≤ length bs → StringIs rest (string_len 0 rest))
    → StringIs (92 ∷ bs) (further 1 (escaped found bs (λ n. string_len n bs)))
backslash_more bs None e h again = none_more bs (λ front rest letter f i. no_escape_is bs front rest letter e f i)
backslash_more bs (Some n) e h again =
    let le : length h.1 ≤ length bs = omega (arith, length-append h.0 h.1, ap length h.3) in
    found_more bs h.0 h.1 h.2 n h.3 h.4 h.5 (again h.1 le)

byte_more : (b : ℕ) (bs : List ℕ) → ((rest : List ℕ) → length rest ≤ length bs → StringIs rest (string_len 0 rest)) → StringIs (b ∷ bs) (string_len 0 (b ∷ bs))
unfolding string_len
byte_more b bs again =
    let after = further 1 (escaped (escape_len bs) bs (λ n. string_len n bs)) in
    cond_both (eqb b 34) (Ok 1) (cond (eqb b 92) after (further 1 (string_len 0 bs))) (StringIs (b ∷ bs))
    (λ e. ([], bs, ap (λ (x : ℕ). x ∷ bs) (eqb-true b 34 e), refl, empty))
    (λ q. cond_both (eqb b 92) after (further 1 (string_len 0 bs)) (StringIs (b ∷ bs))
    (λ e. subst (λ (x : ℕ). StringIs (x ∷ bs) after) (sym (eqb-true b 92 e)) (backslash_more bs (escape_len bs) refl (escape_is bs) again))
    (λ e. plain_more b bs (string_len 0 bs) (eqb-false b 34 q) (eqb-false b 92 e) (again bs (omega arith))))

string_within : (most : ℕ) (bs : List ℕ) → length bs ≤ most → StringIs bs (string_len 0 bs)
unfolding string_len
string_within most [] le = nothing
string_within zero (b ∷ bs) le = absurd (omega arith)
string_within (suc most) (b ∷ bs) le = byte_more b bs (λ rest shorter. string_within most rest (omega arith))

pub string_is : (bs : List ℕ) → StringIs bs (string_len 0 bs)
string_is bs = string_within (length bs) bs (omega arith)

-- ---- a string is counted

escape_on : (front ys : List ℕ) (letter : Letter) (n : ℕ) → IsEscape front letter → string_len 0 ys ≡ Ok n → string_len 0 (92 ∷ front ++ ys) ≡ Ok (n + length front + 1)
unfolding string_len
escape_on front ys letter n i e =
    let le : length front ≤ length (front ++ ys) = omega (arith, length-append front ys) in
    ap (λ (found : Option ℕ). further 1 (escaped found (front ++ ys) (λ n. string_len n (front ++ ys)))) (escape_again front ys letter i)
    ∙ ap (further 1) (passed (length front) (front ++ ys) le ∙ ap (λ (xs : List ℕ). further (length front) (string_len 0 xs)) (drop_at front ys (length front) refl) ∙ ap (further (length front)) e)

pub string_again : (inner rest : List ℕ) → IsString inner → string_len 0 (inner ++ 34 ∷ rest) ≡ Ok (length inner + 1)
unfolding string_len
string_again inner rest empty = refl
string_again _ rest (plain {b = b} {bs = bs} q s i) =
    let after = further 1 (escaped (escape_len (bs ++ 34 ∷ rest)) (bs ++ 34 ∷ rest) (λ n. string_len n (bs ++ 34 ∷ rest))) in
    cond-false (eqb b 34) (Ok 1) (cond (eqb b 92) after (further 1 (string_len 0 (bs ++ 34 ∷ rest)))) (ne_eqb b 34 q)
    ∙ cond-false (eqb b 92) after (further 1 (string_len 0 (bs ++ 34 ∷ rest))) (ne_eqb b 92 s) ∙ ap (further 1) (string_again bs rest i)
    ∙ (let n : length bs + 1 + 1 ≡ suc (length bs) + 1 = omega arith in ap (λ (k : ℕ). Ok k) n)
string_again _ rest (escape {front = front} {bs = bs} {letter = letter} e i) =
    let n : length bs + 1 + length front + 1 ≡ length (92 ∷ front ++ bs) + 1 = omega (arith, length-append front bs) in
    ap (λ (xs : List ℕ). string_len 0 (92 ∷ xs)) (append_assoc front bs (34 ∷ rest)) ∙ escape_on front (bs ++ 34 ∷ rest) letter (length bs + 1) e (string_again bs rest i) ∙ ap (λ (k : ℕ). Ok k) n
