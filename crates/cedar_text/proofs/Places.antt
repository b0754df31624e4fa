-- Where the tokens of a cut text lie.
use Rattle.std.proofs.Common.{◌≡◌, refl, sym, ap, subst, ◌∙◌, ℕ, zero, suc, ◌+◌, ◌≤◌, List, [], ◌∷◌, ◌++◌, length, take, drop, Result, Ok, Err, length-append, length-drop, arith}
use Rattle.std.specs.Prelude.{IfOk}
use Rattle.std.specs.List.{All}
use Rattle.std.specs.Global.{Vec}
use Rattle.std.specs.Str.{IsUtf8, IsCharBoundary}
use Rattle.std.proofs.lemmas.List.{take_at, drop_at, drop-drop}
use Rattle.std.proofs.lemmas.Str.{IsCharBoundary-from_rest, IsUtf8-drop, IsCharBoundary-start}
use Rattle.cedar_text.specs.declared.token_kind.TokenKind.{TokenKind}
use Rattle.cedar_text.specs.declared.token.Token.{Token}
use Rattle.cedar_text.specs.declared.text_fault.TextFault.{TextFault}
use Rattle.cedar_text.specs.Lexeme.{Lexemes, lexemes}
use Rattle.cedar_text.specs.Tokens.{AreTokens, IsCut, done, blank, token}
use Rattle.cedar_text.specs.Spans.{AreInOrder, IsSliceOf}
use Rattle.cedar_text.proofs.Boundaries.{token_boundary, blank_boundary}
use Rattle.cedar_text.proofs.Whole.{token_some}

later : (at from : ℕ) (ts : Lexemes) → at ≤ from → AreInOrder from ts → AreInOrder at ts
later at from [] le h = tt
later at from (t ∷ ts) le h = (let first = h.0 in omega arith, h.1, h.2)

in_order : (at : ℕ) (bs : List ℕ) (ts : Lexemes) (rest : List ℕ) → IsCut at bs ts rest → AreInOrder at ts
in_order at bs ts rest done = tt
in_order at bs ts rest (blank {front = front} i c) = later at (at + length front) ts (omega arith) (in_order (at + length front) _ ts rest c)
in_order at bs _ rest (token {n = n} {kind = kind} {front = front} {more = more} {ts = ts} i c) =
    (omega arith, (let some = token_some kind n front more i in omega arith), in_order (at + length front) more ts rest c)

all_more : {X : Type 0} (P : X → Type 0) (x : X) (xs : List X) → P x → All P xs → All P (x ∷ xs)
all_more P x xs p all zero d lt = p
all_more P x xs p all (suc k) d lt = all k d (omega arith)

-- what is left of the source from the byte `at` on, where a character begins
record IsLeft (source bs : List ℕ) (at : ℕ) : Type 0 where
  left : drop at source ≡ bs
  within : at ≤ length source
  utf8 : IsUtf8 bs
  begins : IsCharBoundary source at

length_of_left : (source bs : List ℕ) (at : ℕ) → IsLeft source bs at → at + length bs ≡ length source
length_of_left source bs at h = let w = h.within in omega (arith, length-drop at source, ap length h.left)

-- one piece on
left_on : (source front more : List ℕ) (at : ℕ) → IsLeft source (front ++ more) at → IsCharBoundary (front ++ more) (length front) → IsLeft source more (at + length front)
left_on source front more at h b = record {
  left = sym (drop-drop (length front) at source) ∙ ap (drop (length front)) h.left ∙ drop_at front more (length front) refl;
  within = omega (arith, length_of_left source (front ++ more) at h, length-append front more);
  utf8 = subst IsUtf8 (drop_at front more (length front) refl) (IsUtf8-drop (front ++ more) (length front) h.utf8 b);
  begins = IsCharBoundary-from_rest source at (length front) h.within (subst (λ (xs : List ℕ). IsCharBoundary xs (length front)) (sym h.left) b);
}

slice_of : (source front more : List ℕ) (at n : ℕ) (kind : TokenKind) → IsLeft source (front ++ more) at → IsLeft source more (at + length front)
    → IsSliceOf source (record { kind = kind; start = at; text = front; number = n })
slice_of source front more at n kind h on = record {
  text = ap (take (length front)) h.left ∙ take_at front more (length front) refl;
  within = on.within;
  begins = h.begins;
  ends = on.begins;
}

slices : (source : List ℕ) (at : ℕ) (bs : List ℕ) (ts : Lexemes) (rest : List ℕ) → IsCut at bs ts rest → IsLeft source bs at → All (IsSliceOf source) ts
slices source at bs ts rest done h = λ k d lt. absurd (omega arith)
slices source at bs ts rest (blank {front = front} {more = more} i c) h =
    slices source (at + length front) more ts rest c (left_on source front more at h (blank_boundary front more i h.utf8))
slices source at bs _ rest (token {n = n} {kind = kind} {front = front} {more = more} {ts = ts} i c) h =
    let on = left_on source front more at h (token_boundary kind n front more i h.utf8) in
    all_more (IsSliceOf source) (record { kind = kind; start = at; text = front; number = n }) ts (slice_of source front more at n kind h on) (slices source (at + length front) more ts rest c on)

-- ---- what the contract of the whole says

pub order_by : (source : List ℕ) (x : Result (Vec Token) TextFault) → IfOk x (λ v. AreTokens source (lexemes v.items)) → IfOk x (λ v. AreInOrder 0 (lexemes v.items))
order_by source (Ok v) c = in_order 0 source (lexemes v.items) [] c
order_by source (Err e) c = tt

pub slices_by : (source : List ℕ) (x : Result (Vec Token) TextFault) → IsUtf8 source → IfOk x (λ v. AreTokens source (lexemes v.items)) → IfOk x (λ v. All (IsSliceOf source) (lexemes v.items))
slices_by source (Ok v) u c = slices source 0 source (lexemes v.items) [] c (record { left = refl; within = omega arith; utf8 = u; begins = IsCharBoundary-start source u })
slices_by source (Err e) u c = tt
