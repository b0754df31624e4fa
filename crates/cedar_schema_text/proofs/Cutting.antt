-- Cutting a text into tokens, turn by turn.
use Rattle.std.proofs.Common.{◌≡◌, ℕ, zero, suc, ◌+◌, ◌-◌, ◌<◌, ◌≤◌, List, [], ◌∷◌, ◌++◌, map, length, take, drop, Option, Some, None, Result, Ok, Err, refl, sym, ap, subst, ◌∙◌, length-drop, arith}
use Rattle.std.proofs.lemmas.List.{map-append}
use Rattle.cedar_schema_text.specs.declared.token_kind.TokenKind.{TokenKind}
use Rattle.cedar_schema_text.specs.declared.token.Piece.{Piece}
use Rattle.cedar_schema_text.specs.declared.fault.SchemaTextFault.{SchemaTextFault}
use Rattle.cedar_schema_text.specs.declared.fault.SchemaTextFault.TheVariants as f
use Rattle.cedar_schema_text.specs.Marks.{Mark, Marks, written}
use Rattle.cedar_schema_text.specs.Tokens.{skip, token_at, on_token, cut_from, cut}
use Rattle.cedar_schema_text.proofs.Turns.{one_left}

abbrev Outcome : Type 0
Outcome = Result Marks SchemaTextFault

pub cut_begins : (source rest : List ℕ) (ms : Marks) → rest ≡ skip source → ms ≡ [] → cut source ≡ cut_from (length source - 0) (length source) ms rest
unfolding cut
cut_begins source rest ms e n =
    (let z : length source ≡ length source - 0 = omega arith in ap (λ (k : ℕ). cut_from k (length source) [] (skip source)) z)
    ∙ ap (cut_from (length source - 0) (length source) []) (sym e) ∙ ap (λ xs. cut_from (length source - 0) (length source) xs rest) (sym n)

pub cut_done : (n end : ℕ) (found : Marks) (bs : List ℕ) → length bs ≤ 0 → cut_from n end found bs ≡ Ok found
unfolding cut_from
cut_done zero end found bs none = refl
cut_done (suc n) end found [] none = refl
cut_done (suc n) end found (b ∷ bs) none = absurd (omega arith)

pub cut_over : (n i end : ℕ) (found : Marks) (bs : List ℕ) → n ≤ i → cut_from (n - i) end found bs ≡ Ok found
unfolding cut_from
cut_over n i end found bs le = let e : n - i ≡ 0 = omega arith in ap (λ (k : ℕ). cut_from k end found bs) e

abbrev goes_on : ℕ → ℕ → Marks → List ℕ → Option (TokenKind × ℕ) → Outcome
goes_on n end found bs o =
    on_token o (Err (f.Syntax (end - length bs))) (λ kind len. cut_from n end (found ++ record { kind = kind; start = end - length bs; text = take len bs } ∷ []) (skip (drop len bs)))

cut_step : (n end : ℕ) (found : Marks) (bs : List ℕ) → 0 < length bs → cut_from (suc n) end found bs ≡ goes_on n end found bs (token_at bs)
unfolding cut_from
cut_step n end found [] some = absurd (omega arith)
cut_step n end found (b ∷ bs) some = refl

at_turn : (n i end : ℕ) (found : Marks) (bs : List ℕ) (o : Option (TokenKind × ℕ)) → i < n → 0 < length bs → token_at bs ≡ o → cut_from (n - i) end found bs ≡ goes_on (n - (i + 1)) end found bs o
at_turn n i end found bs o lt some e = ap (λ (k : ℕ). cut_from k end found bs) (one_left n i lt) ∙ cut_step (n - (i + 1)) end found bs some ∙ ap (goes_on (n - (i + 1)) end found bs) e

pub cut_refused : (n i end : ℕ) (found : Marks) (bs : List ℕ) → i < n → 0 < length bs → token_at bs ≡ None → cut_from (n - i) end found bs ≡ Err (f.Syntax (end - length bs))
cut_refused n i end found bs lt some e = at_turn n i end found bs None lt some e

pub cut_turn : (n i end : ℕ) (old new : List Piece) (bs after more : List ℕ) (p : Piece) → i < n → 0 < length bs → token_at bs ≡ Some (p.kind, length p.text.now) → p.start ≡ end - length bs
    → p.text.now ≡ take (length p.text.now) bs → after ≡ drop (length p.text.now) bs → more ≡ skip after → new ≡ old ++ p ∷ []
    → cut_from (n - i) end (map written old) bs ≡ cut_from (n - (i + 1)) end (map written new) more
cut_turn n i end old new bs after more p lt some e start text rest skipped pushed =
    let m = n - (i + 1) in
    let front = map written old in
    let one : ◌≡◌ {A = Mark} (record { kind = p.kind; start = end - length bs; text = take (length p.text.now) bs }) (written p) =
    ap (λ xs. record { kind = p.kind; start = end - length bs; text = xs }) (sym text) ∙ ap (λ (k : ℕ). record { kind = p.kind; start = k; text = p.text.now }) (sym start) in
    at_turn n i end front bs (Some (p.kind, length p.text.now)) lt some e ∙ ap (λ x. cut_from m end (front ++ x ∷ []) (skip (drop (length p.text.now) bs))) one
    ∙ ap (λ xs. cut_from m end (front ++ written p ∷ []) (skip xs)) (sym rest) ∙ ap (cut_from m end (front ++ written p ∷ [])) (sym skipped)
    ∙ ap (λ ms. cut_from m end ms more) (sym (ap (map written) pushed ∙ map-append written old (p ∷ [])))

pub shorter : (n : ℕ) (bs after : List ℕ) → after ≡ drop n bs → length after ≤ length bs
shorter n bs after e = subst (λ xs. length xs ≤ length bs) (sym e) (omega (arith, length-drop n bs))
