-- Lists that lie one after another.
use Rattle.std.proofs.Common.{◌≡◌, ℕ, zero, suc, ◌-◌, ◌<◌, ◌≤◌, List, [], ◌∷◌, ◌++◌, length, take, drop, get_or, refl, sym, ap, ap₂, subst, ◌∙◌, arith, length-drop}
use Rattle.std.proofs.lemmas.List.{get_or_past, length-append, length-map, map-append, take_all}
use Rattle.std.proofs.lemmas.List.Elements.{All-head, All-tail, All-push, All-weaker, All-get_or}
use Rattle.base_search.specs.Private.Spans.{AreWithin, lists_of, part}
use Rattle.base_search.specs.declared.lists.Span.{Span}

drop_from : (xs ys : List ℕ) (n : ℕ) → n ≤ length xs → drop n (xs ++ ys) ≡ drop n xs ++ ys
drop_from xs ys zero h = refl
drop_from [] ys (suc n) h = absurd (omega arith)
drop_from (x ∷ xs) ys (suc n) h = drop_from xs ys n (omega arith)

take_from : (xs ys : List ℕ) (n : ℕ) → n ≤ length xs → take n (xs ++ ys) ≡ take n xs
take_from xs ys zero h = refl
take_from [] ys (suc n) h = absurd (omega arith)
take_from (x ∷ xs) ys (suc n) h = ap (λ l. x ∷ l) (take_from xs ys n (omega arith))

drop_end : (xs ys : List ℕ) → drop (length xs) (xs ++ ys) ≡ ys
drop_end [] ys = refl
drop_end (x ∷ xs) ys = drop_end xs ys

part_kept : (numbers more : List ℕ) (span : Span) → span.start ≤ span.end → span.end ≤ length numbers → part (numbers ++ more) span ≡ part numbers span
part_kept numbers more span forward within =
    let long = length-drop span.start numbers in
    ap (take (span.end - span.start)) (drop_from numbers more span.start (omega arith)) ∙ take_from (drop span.start numbers) more (span.end - span.start) (omega arith)

lists_kept : (numbers more : List ℕ) (spans : List Span) → AreWithin numbers spans → lists_of (numbers ++ more) spans ≡ lists_of numbers spans
lists_kept numbers more [] within = refl
lists_kept numbers more (span ∷ spans) within =
    let P : Span → Type 0 = λ s. (s.start ≤ s.end) × (s.end ≤ length numbers) in
    let first = All-head P span spans within in
    ap₂ (λ (l : List ℕ) (ls : List (List ℕ)). l ∷ ls) (part_kept numbers more span first.0 first.1) (lists_kept numbers more spans (All-tail P span spans within))

-- the numbers after the last span
abbrev pub last_span : List ℕ → List ℕ → Span
last_span numbers more = record { start = length numbers; end = length (numbers ++ more) }

part_last : (numbers more : List ℕ) → part (numbers ++ more) (last_span numbers more) ≡ more
part_last numbers more =
    let long = length-append numbers more in
    ap (take (length (numbers ++ more) - length numbers)) (drop_end numbers more) ∙ take_all (length (numbers ++ more) - length numbers) more (omega arith)

pub lists_more : (numbers more : List ℕ) (spans : List Span) → AreWithin numbers spans → lists_of (numbers ++ more) (spans ++ last_span numbers more ∷ []) ≡ lists_of numbers spans ++ more ∷ []
lists_more numbers more spans within =
    map-append (part (numbers ++ more)) spans (last_span numbers more ∷ [])
    ∙ ap₂ (λ (ls : List (List ℕ)) (l : List ℕ). ls ++ l ∷ []) (lists_kept numbers more spans within) (part_last numbers more)

pub within_more : (numbers more : List ℕ) (spans : List Span) → AreWithin numbers spans → AreWithin (numbers ++ more) spans
within_more numbers more spans within =
    let long = length-append numbers more in
    All-weaker (λ (s : Span). (s.start ≤ s.end) × (s.end ≤ length numbers)) (λ (s : Span). (s.start ≤ s.end) × (s.end ≤ length (numbers ++ more)))
    (λ s h. (let first = h.0 in let last = h.1 in (omega arith, omega arith))) spans within

pub within_last : (numbers more : List ℕ) (spans : List Span) → AreWithin numbers spans → AreWithin (numbers ++ more) (spans ++ last_span numbers more ∷ [])
within_last numbers more spans within =
    let long = length-append numbers more in
    All-push (λ (s : Span). (s.start ≤ s.end) × (s.end ≤ length (numbers ++ more))) spans (last_span numbers more) (within_more numbers more spans within) (omega arith, omega arith)

-- ---- the list at a place

get_or-part : (numbers : List ℕ) (spans : List Span) (i : ℕ) (span : Span) → i < length spans → get_or (lists_of numbers spans) i [] ≡ part numbers (get_or spans i span)
get_or-part numbers [] i span within = absurd (omega arith)
get_or-part numbers (s ∷ spans) zero span within = refl
get_or-part numbers (s ∷ spans) (suc i) span within = get_or-part numbers spans i span (omega arith)

pub list_within : (numbers : List ℕ) (spans : List Span) (i : ℕ) (span : Span) → i < length spans → span ≡ get_or spans i span → part numbers span ≡ get_or (lists_of numbers spans) i []
list_within numbers spans i span within is = ap (part numbers) is ∙ sym (get_or-part numbers spans i span within)

pub list_past : (numbers : List ℕ) (spans : List Span) (i : ℕ) → length spans ≤ i → [] ≡ get_or (lists_of numbers spans) i []
list_past numbers spans i past = let long = length-map spans (part numbers) in sym (get_or_past (lists_of numbers spans) i [] (omega arith))

pub span_within : (numbers : List ℕ) (spans : List Span) (i : ℕ) (span : Span) → AreWithin numbers spans → i < length spans → span ≡ get_or spans i span → (span.start ≤ span.end) × (span.end ≤ length numbers)
span_within numbers spans i span within less is =
    let P : Span → Type 0 = λ s. (s.start ≤ s.end) × (s.end ≤ length numbers) in
    subst P (sym is) (All-get_or P spans i span less within)
