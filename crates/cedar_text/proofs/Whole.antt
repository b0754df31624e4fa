-- Cutting from left to right gives the tokens of the text, and the fault that stands next.
use Rattle.std.proofs.Common.{◌≡◌, ◌≢◌, refl, sym, ap, subst, ◌∙◌, ℕ, zero, suc, ◌+◌, ◌≤◌, ◌<◌, false, List, ◌∷◌, ◌++◌, length, take, drop, Option, Some, None, Result, Ok, Err, ◌⊎◌, inl, inr, length-append, length-take, length-drop, arith, []}
use Rattle.std.specs.Prelude.{encode_utf8, IfOk, IfErr}
use Rattle.std.specs.Global.{Vec}
use Rattle.std.proofs.lemmas.List.{take_at, drop_at, take-append-drop}
use Rattle.cedar_text.specs.declared.token_kind.TokenKind.{TokenKind}
use Rattle.cedar_text.specs.declared.piece.Piece.{Piece}
use Rattle.cedar_text.specs.declared.token.Token.{Token}
use Rattle.cedar_text.specs.declared.text_fault.TextFault.{TextFault}
use Rattle.cedar_text.specs.declared.text_fault.TextFault.TheVariants as f
use Rattle.cedar_text.specs.Lexeme.{Lexemes, lexemes}
use Rattle.cedar_text.specs.Bytes.{is_digit}
use Rattle.cedar_text.specs.Blanks.{IsWhite, IsBlank, white, comment}
use Rattle.cedar_text.specs.Signs.{IsSign}
use Rattle.cedar_text.specs.Tokens.{IsToken, sign, AreTokens, IsCut, done, blank, token}
use Rattle.cedar_text.specs.Faults.{IsBadCharacter, IsUnclosed, IsBadEscape, IsTooLarge, HasTokens, HasFault}
use Rattle.cedar_text.specs.Private.Outcomes.{Gives}
use Rattle.cedar_text.specs.Private.Lexing.{Refusal, BadCharacter, UnclosedString, BadEscape, NumberTooLarge, skipped, lexed, piece, add, and_then, lex}
use Rattle.cedar_text.proofs.White.{white_again}
use Rattle.cedar_text.proofs.Signs.{sign_is}
use Rattle.cedar_text.proofs.Pieces.{IsPiece, Fine, piece_fine, blank_again, token_again}

abbrev FaultIs : Refusal → List ℕ → Type 0
FaultIs BadCharacter rest = IsBadCharacter rest
FaultIs UnclosedString rest = IsUnclosed rest
FaultIs BadEscape rest = IsBadEscape rest
FaultIs NumberTooLarge rest = IsTooLarge rest

abbrev pub LexIs : ℕ → List ℕ → Result Lexemes Refusal → Type 0
LexIs at bs (Ok ts) = IsCut at bs ts []
LexIs at bs (Err x) = (ts : Lexemes) × (rest : List ℕ) × IsCut at bs ts rest × FaultIs x rest

abbrev ok : Piece → Result Piece Refusal
ok p = Ok p

abbrev no : Result Piece Refusal
no = Err BadCharacter

clash : (p : Piece) → ok p ≡ no → ⊥
clash p e = absurd cc

bad_character : (b : ℕ) (bs : List ℕ) → piece (b ∷ bs) ≡ no → b ≢ 34 → is_digit b ≡ false → IsBadCharacter (b ∷ bs)
bad_character b bs e q d = record {
  some = λ h. absurd cc;
  no_blank = λ front more h i. clash (skipped (length front)) (sym (ap piece h ∙ blank_again front more i) ∙ e);
  no_token = λ kind n front more h t. clash (lexed kind (length front) n) (sym (ap piece h ∙ token_again kind n front more t) ∙ e);
  no_quote = q;
  no_digit = d;
}

-- one piece more in front
front_len : (bs : List ℕ) (len : ℕ) → len ≤ length bs → length (take len bs) ≡ len
front_len bs len le = length-take len bs ∙ omega arith

piece_cut : (at : ℕ) (bs : List ℕ) (kind : Option TokenKind) (len n : ℕ) (ts : Lexemes) (rest : List ℕ) → IsPiece bs kind len n → IsCut (at + len) (drop len bs) ts rest
    → IsCut at bs (add at bs (record { kind = kind; len = len; number = n }) ts) rest
piece_cut at bs None len n ts rest p c =
    let l = front_len bs len p.within in
    subst (λ (xs : List ℕ). IsCut at xs ts rest) (take-append-drop len bs) (blank p.is (subst (λ (i : ℕ). IsCut (at + i) (drop len bs) ts rest) (sym l) c))
piece_cut at bs (Some kind) len n ts rest p c =
    let l = front_len bs len p.within in
    let more : Lexemes = record { kind = kind; start = at; text = take len bs; number = n } ∷ ts in
    subst (λ (xs : List ℕ). IsCut at xs more rest) (take-append-drop len bs) (token p.is (subst (λ (i : ℕ). IsCut (at + i) (drop len bs) ts rest) (sym l) c))

step_is : (at : ℕ) (bs : List ℕ) (p : Piece) (r : Result Lexemes Refusal) → IsPiece bs p.kind p.len p.number → LexIs (at + p.len) (drop p.len bs) r → LexIs at bs (and_then r (λ ts. Ok (add at bs p ts)))
step_is at bs p (Ok ts) i h = piece_cut at bs p.kind p.len p.number ts [] i h
step_is at bs p (Err x) i h = (add at bs p h.0, h.1, piece_cut at bs p.kind p.len p.number h.0 h.1 i h.2, h.3)

first_is : (at n : ℕ) (b : ℕ) (bs : List ℕ) (r : Result Piece Refusal) → piece (b ∷ bs) ≡ r → Fine (b ∷ bs) r → length bs ≤ n
    → ((len : ℕ) → 0 < len → LexIs (at + len) (drop len (b ∷ bs)) (lex n (at + len) (drop len (b ∷ bs))))
    → LexIs at (b ∷ bs) (and_then r (λ p. and_then (lex n (at + p.len) (drop p.len (b ∷ bs))) (λ ts. Ok (add at (b ∷ bs) p ts))))
first_is at n b bs (Ok p) e f le h = step_is at (b ∷ bs) p _ f (h p.len f.some)
first_is at n b bs (Err BadCharacter) e f le h = ([], b ∷ bs, done, bad_character b bs e f.0 f.1)
first_is at n b bs _ e f le h = ([], b ∷ bs, done, f)

pub lex_is : (n at : ℕ) (bs : List ℕ) → length bs ≤ n → LexIs at bs (lex n at bs)
unfolding lex
lex_is zero at [] le = done
lex_is (suc n) at [] le = done
lex_is zero at (b ∷ bs) le = absurd (omega arith)
lex_is (suc n) at (b ∷ bs) le =
    first_is at n b bs (piece (b ∷ bs)) refl (piece_fine b bs) (omega arith) (λ len some. lex_is n (at + len) (drop len (b ∷ bs)) (omega (arith, length-drop len (b ∷ bs))))

-- ---- the tokens of the text are what is cut

lex_step : (n at : ℕ) (bs : List ℕ) (p : Piece) → 0 < length bs → piece bs ≡ Ok p → lex (suc n) at bs ≡ and_then (lex n (at + p.len) (drop p.len bs)) (λ ts. Ok (add at bs p ts))
unfolding lex
lex_step n at [] p some e = absurd (omega arith)
lex_step n at (b ∷ bs) p some e = ap (λ (r : Result Piece Refusal). and_then r (λ p. and_then (lex n (at + p.len) (drop p.len (b ∷ bs))) (λ ts. Ok (add at (b ∷ bs) p ts)))) e

white_some : (c : ℕ) → IsWhite c → 0 < length (encode_utf8 c)
white_some c w = let h = white_again c [] w in let some = h.1 in omega (arith, h.2.1)

sign_some : (front : List ℕ) (kind : TokenKind) → IsSign front kind → 0 < length front
sign_some front kind i = elim (sign_is front kind i) [ inl w ↦ omega (arith, ap length w.1) | inr w ↦ omega (arith, ap length w.2) ]

pub blank_some : (front rest : List ℕ) → IsBlank front rest → 0 < length front
blank_some front rest (white {c = c} w) = white_some c w
blank_some front rest (comment h s) = omega arith

pub token_some : (kind : TokenKind) (n : ℕ) (front rest : List ℕ) → IsToken kind n front rest → 0 < length front
token_some kind n front rest (sign i l) = sign_some front kind i
token_some kind n front rest _ = omega arith

blank_on : (n at : ℕ) (front more : List ℕ) (ts : Lexemes) → IsBlank front more → lex n (at + length front) more ≡ Ok ts → lex (suc n) at (front ++ more) ≡ Ok ts
blank_on n at front more ts i h =
    lex_step n at (front ++ more) (skipped (length front)) (let s = blank_some front more i in omega (arith, length-append front more)) (blank_again front more i)
    ∙ ap (λ (xs : List ℕ). and_then (lex n (at + length front) xs) (λ ts. Ok ts)) (drop_at front more (length front) refl) ∙ ap (λ (r : Result Lexemes Refusal). and_then r (λ ts. Ok ts)) h

token_on : (n at : ℕ) (kind : TokenKind) (v : ℕ) (front more : List ℕ) (ts : Lexemes) → IsToken kind v front more → lex n (at + length front) more ≡ Ok ts
    → lex (suc n) at (front ++ more) ≡ Ok (record { kind = kind; start = at; text = front; number = v } ∷ ts)
token_on n at kind v front more ts i h =
    let put : List ℕ → Lexemes → Result Lexemes Refusal = λ xs ts. Ok (record { kind = kind; start = at; text = xs; number = v } ∷ ts) in
    lex_step n at (front ++ more) (lexed kind (length front) v) (let s = token_some kind v front more i in omega (arith, length-append front more)) (token_again kind v front more i)
    ∙ ap (λ (xs : List ℕ). and_then (lex n (at + length front) xs) (put (take (length front) (front ++ more)))) (drop_at front more (length front) refl)
    ∙ ap (λ (xs : List ℕ). and_then (lex n (at + length front) more) (put xs)) (take_at front more (length front) refl)
    ∙ ap (λ (r : Result Lexemes Refusal). and_then r (put front)) h

pub lex_again : (n at : ℕ) (bs : List ℕ) (ts : Lexemes) (rest : List ℕ) → IsCut at bs ts rest → rest ≡ [] → length bs ≤ n → lex n at bs ≡ Ok ts
unfolding lex
lex_again n at bs ts rest done e le = go n ∙ refl
  where
    go : (m : ℕ) → lex m at bs ≡ Ok []
    go zero = ap (lex zero at) e
    go (suc m) = ap (lex (suc m) at) e
lex_again zero at bs ts rest (blank {front = front} {more = more} i c) e le = absurd (let s = blank_some front more i in omega (arith, length-append front more))
lex_again (suc n) at bs ts rest (blank {front = front} {more = more} i c) e le =
    blank_on n at front more ts i (lex_again n (at + length front) more ts rest c e (let s = blank_some front more i in omega (arith, length-append front more)))
lex_again zero at bs ts rest (token {n = v} {kind = kind} {front = front} {more = more} i c) e le = absurd (let s = token_some kind v front more i in omega (arith, length-append front more))
lex_again (suc n) at bs _ rest (token {n = v} {kind = kind} {front = front} {more = more} {ts = ts} i c) e le =
    token_on n at kind v front more ts i (lex_again n (at + length front) more ts rest c e (let s = token_some kind v front more i in omega (arith, length-append front more)))

-- ---- what the contract of the whole says

pub found_by : (source : List ℕ) (x : Result (Vec Token) TextFault) → Gives (λ v. lexemes v.items) (lex (length source) 0 source) x → IfOk x (λ v. AreTokens source (lexemes v.items))
found_by source (Ok v) h = subst (LexIs 0 source) h (lex_is (length source) 0 source (omega arith))
found_by source (Err x) h = tt

abbrev oks : Lexemes → Result Lexemes Refusal
oks ts = Ok ts

oks_one : (ts us : Lexemes) → oks ts ≡ oks us → ts ≡ us
oks_one ts us h = cc

whole_again : (source : List ℕ) (ts : Lexemes) → AreTokens source ts → lex (length source) 0 source ≡ oks ts
whole_again source ts c = lex_again (length source) 0 source ts [] c refl (omega arith)

pub one_list_by : (source : List ℕ) (ts us : Lexemes) → AreTokens source ts → AreTokens source us → ts ≡ us
one_list_by source ts us a b = oks_one ts us (sym (whole_again source ts a) ∙ whole_again source us b)

abbrev HasOrLacks : List ℕ → Type 0
HasOrLacks source = ((ts : Lexemes) × AreTokens source ts) ⊎ ((ts : Lexemes) → AreTokens source ts → ⊥)

decided : (source : List ℕ) (r : Result Lexemes Refusal) → lex (length source) 0 source ≡ r → HasOrLacks source
decided source (Ok ts) e = inl (ts, subst (LexIs 0 source) e (lex_is (length source) 0 source (omega arith)))
decided source (Err x) e = inr (λ ts c. let h = whole_again source ts c in absurd cc)

pub tokens_or_none_by : (source : List ℕ) → HasOrLacks source
tokens_or_none_by source = decided source (lex (length source) 0 source) refl

pub only_by : (source : List ℕ) (x : Result (Vec Token) TextFault) → Gives (λ v. lexemes v.items) (lex (length source) 0 source) x → (ts : Lexemes) → AreTokens source ts
    → HasTokens ts x
only_by source (Ok v) h ts c = oks_one (lexemes v.items) ts (sym h ∙ whole_again source ts c)
only_by source (Err f.OutOfMemory) h ts c = tt
only_by source _ h ts c = let e = whole_again source ts c in absurd cc

pub fault_by : (source : List ℕ) (x : Result (Vec Token) TextFault) → Gives (λ v. lexemes v.items) (lex (length source) 0 source) x → IfErr x (HasFault source)
fault_by source (Ok v) h = tt
fault_by source (Err f.OutOfMemory) h = tt
fault_by source _ h = subst (LexIs 0 source) h (lex_is (length source) 0 source (omega arith))
