-- Rows are found one after another.
use Rattle.std.proofs.Common.{Bor, IfSome, ◌≡◌, ◌↔◌, ℕ, zero, suc, ◌%◌, ◌<◌, ◌≤◌, Bool, true, false, nat_eq, List, [], length, get_or, set, replicate, Option, None, Some, inl, inr, refl, sym, ap, subst, ◌∙◌, arith, Contains, IsTrue, get_or-set_same, get_or-set_other, length-set}
use Rattle.std.proofs.lemmas.Bool.{cases_eq, cases_lt}
use Rattle.std.proofs.lemmas.List.{get_or_past}
use Rattle.std.proofs.lemmas.Nat.Bits.{bit_at-zero}
use Rattle.base_bits.specs.Bits.{has_bit}
use Rattle.base_reach.specs.Closure.{LeadsTo, IsClosure}
use Rattle.base_reach.proofs.Chains.{first_link}
use Rattle.base_reach.proofs.Listed.{nowhere}
use Rattle.base_search.specs.Links.{AreClosed, IsRowOver, list_at, next}
use Rattle.base_search.specs.Private.Finding.{AreFound, IsFinding, KeepsKnown}
use Rattle.base_search.specs.declared.found.Found.{Found}
use Rattle.base_search.proofs.Ahead.{ahead_leads, leads_ahead}

pub no_bit : (n : ℕ) → has_bit [] n ≡ false
no_bit n = ap (λ t. nat_eq t 1) (bit_at-zero (n % 64))

row_over_nothing : (links : ℕ → List ℕ) → IsRowOver links [] []
row_over_nothing links n = (λ h. (let none = no_bit n in let no : true ≡ false = sym h ∙ none in absurd (cc)), λ a. absurd (nowhere a.0 a.1))

-- a number that links to nothing leads nowhere
pub leads_nowhere : (links : ℕ → List ℕ) (k n : ℕ) → links k ≡ [] → LeadsTo links k n → ⊥
leads_nowhere links k n none chain = let first = first_link chain in nowhere first.0 (subst (λ (l : List ℕ). Contains l first.0) none first.1)

module _ (lists : List (List ℕ)) (places : List (Option ℕ)) where
  pub next_past : (k : ℕ) → length places ≤ k → next lists places k ≡ []
  next_past k past = ap (list_at lists) (get_or_past places k None past)

  next_at : (k place : ℕ) → get_or places k None ≡ Some place → next lists places k ≡ get_or lists place []
  next_at k place at = ap (list_at lists) at

  closure_over : (k : ℕ) (row : List ℕ) → IsRowOver (next lists places) (next lists places k) row → IsClosure (next lists places) k (has_bit row)
  closure_over k row over n = (λ h. ahead_leads (next lists places) k n ((over n).0 h), λ c. (over n).1 (leads_ahead (next lists places) k n c))

  -- the row at the place of a number has what links lead to from it
  pub closure_at : (rows : List (List ℕ)) (known : List Bool) (k place : ℕ) (row : List ℕ) → AreFound lists places rows known → get_or places k None ≡ Some place → get_or known place false ≡ true → row ≡ get_or rows place []
      → IsClosure (next lists places) k (has_bit row)
  closure_at rows known k place row found at there is =
      closure_over k row (subst (λ (l : List ℕ). IsRowOver (next lists places) l row) (sym (next_at k place at)) (subst (IsRowOver (next lists places) (get_or lists place [])) (sym is) (found place there)))

  pub closure_if : (rows : List (List ℕ)) (known : List Bool) (k place : ℕ) (o : Option (Bor (List ℕ))) → AreFound lists places rows known → get_or places k None ≡ Some place → IfSome o (λ row. get_or known place false ≡ true) → IfSome o (λ row. row.now ≡ get_or rows place [])
      → IfSome o (λ row. IsClosure (next lists places) k (has_bit row.now))
  closure_if rows known k place None found at there is = is
  closure_if rows known k place (Some row) found at there is = closure_at rows known k place row.now found at there is

  none_known : (n i : ℕ) → get_or (replicate n false) i false ≡ false
  none_known zero i = refl
  none_known (suc n) zero = refl
  none_known (suc n) (suc i) = none_known n i

  pub finding_start : (f : Found) → length f.rows.items ≡ length lists → f.known.items ≡ replicate (length lists) false → length (replicate (length lists) false) ≡ length lists → IsFinding lists places f
  finding_start f long none size = record {
    are_found = λ i h. (let was = ap (λ (ks : List Bool). get_or ks i false) none ∙ none_known (length lists) i in let no : true ≡ false = sym h ∙ was in absurd (cc));
    rows_long = long;
    known_long = ap length none ∙ size;
  }

  -- ---- one row more

  pub finding_more : (old new : Found) (place : ℕ) (row : List ℕ) → IsFinding lists places old → new.rows.items ≡ set old.rows.items place row → new.known.items ≡ set old.known.items place true → place < length lists
      → IsRowOver (next lists places) (get_or lists place []) row → IsFinding lists places new
  finding_more old new place row finding rows known within over = record {
    are_found = λ i h. elim (cases_eq i place) [
      | inl here ↦ (let read : get_or new.rows.items i [] ≡ row = ap (λ (rs : List (List ℕ)). get_or rs i []) rows ∙ ap (λ k. get_or (set old.rows.items place row) k []) here ∙ get_or-set_same old.rows.items place row [] (subst (λ n. place < n) (sym finding.rows_long) within) in
          subst (IsRowOver (next lists places) (get_or lists i [])) (sym read) (subst (λ k. IsRowOver (next lists places) (get_or lists k []) row) (sym here) over))
      | inr apart ↦ (let read : get_or new.rows.items i [] ≡ get_or old.rows.items i [] = ap (λ (rs : List (List ℕ)). get_or rs i []) rows ∙ get_or-set_other old.rows.items place i row [] apart in
          let was : get_or old.known.items i false ≡ true = sym (get_or-set_other old.known.items place i true false apart) ∙ ap (λ (ks : List Bool). get_or ks i false) (sym known) ∙ h in
          subst (IsRowOver (next lists places) (get_or lists i [])) (sym read) (finding.are_found i was))
    ];
    rows_long = ap length rows ∙ length-set old.rows.items place row ∙ finding.rows_long;
    known_long = ap length known ∙ length-set old.known.items place true ∙ finding.known_long;
  }

  -- ---- all rows

  pub closed_all : (f : Found) → IsFinding lists places f → ((i : ℕ) → i < length lists → get_or f.known.items i false ≡ true) → AreClosed lists places f.rows.items
  closed_all f finding whole i = elim (cases_lt i (length lists)) [
    | inl within ↦ finding.are_found i (whole i within)
    | inr past ↦ (let no_list : get_or lists i [] ≡ [] = get_or_past lists i [] past in
        let no_row : get_or f.rows.items i [] ≡ [] = get_or_past f.rows.items i [] (subst (λ n. n ≤ i) (sym finding.rows_long) past) in
        subst (λ (l : List ℕ). IsRowOver (next lists places) l (get_or f.rows.items i [])) (sym no_list) (subst (IsRowOver (next lists places) []) (sym no_row) (row_over_nothing (next lists places))))
  ]

  -- ---- circles

  pub circle_at : (f : Found) (k place : ℕ) (b : Bool) → IsFinding lists places f → get_or places k None ≡ Some place → (place < length lists → get_or f.known.items place false ≡ true) → b ≡ has_bit (get_or f.rows.items place []) k
      → IsTrue b ↔ LeadsTo (next lists places) k k
  circle_at f k place b finding at known is = elim (cases_lt place (length lists)) [
    | inl within ↦ (let told = closure_at f.rows.items f.known.items k place (get_or f.rows.items place []) finding.are_found at (known within) refl k in
        (λ h. told.0 (sym is ∙ h), λ c. is ∙ told.1 c))
    | inr past ↦ (let no_row : get_or f.rows.items place [] ≡ [] = get_or_past f.rows.items place [] (subst (λ n. n ≤ place) (sym finding.rows_long) past) in
        let none : b ≡ false = is ∙ ap (λ (r : List ℕ). has_bit r k) no_row ∙ no_bit k in
        let nothing : next lists places k ≡ [] = next_at k place at ∙ get_or_past lists place [] past in
        (λ h. (let no : true ≡ false = sym h ∙ none in absurd (cc)), λ c. absurd (leads_nowhere (next lists places) k k nothing c)))
  ]

  pub circle_none : (k : ℕ) → get_or places k None ≡ None → IsTrue false ↔ LeadsTo (next lists places) k k
  circle_none k none = (λ h. (let no : false ≡ true = h in absurd (cc)), λ c. absurd (leads_nowhere (next lists places) k k (ap (list_at lists) none) c))

  pub acyclic_all : (bound : ℕ) → length places ≤ bound → ((k : ℕ) → k < bound → LeadsTo (next lists places) k k → ⊥) → (k : ℕ) → LeadsTo (next lists places) k k → ⊥
  acyclic_all bound whole none k chain = elim (cases_lt k bound) [
    | inl within ↦ none k within chain
    | inr past ↦ leads_nowhere (next lists places) k k (next_past k (omega arith)) chain
  ]

pub keeps_known : (old new : List Bool) (place : ℕ) → new ≡ set old place true → place < length old → KeepsKnown old new
keeps_known old new place is within i h = elim (cases_eq i place) [
  | inl here ↦ ap (λ (ks : List Bool). get_or ks i false) is ∙ ap (λ k. get_or (set old place true) k false) here ∙ get_or-set_same old place true false within
  | inr apart ↦ ap (λ (ks : List Bool). get_or ks i false) is ∙ get_or-set_other old place i true false apart ∙ h
]

pub known_here : (old new : List Bool) (place : ℕ) → new ≡ set old place true → place < length old → get_or new place false ≡ true
known_here old new place is within = ap (λ (ks : List Bool). get_or ks place false) is ∙ get_or-set_same old place true false within

pub known_more : (old new : List Bool) (n : ℕ) → ((i : ℕ) → i < n → get_or old i false ≡ true) → KeepsKnown old new → get_or new n false ≡ true → (i : ℕ) → i < suc n → get_or new i false ≡ true
known_more old new n before kept here i less = elim (cases_lt i n) [
  | inl earlier ↦ kept i (before i earlier)
  | inr last ↦ (let same : n ≡ i = omega arith in subst (λ k. get_or new k false ≡ true) same here)
]
