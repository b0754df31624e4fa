-- A search among environments that ascend.
use Rattle.std.proofs.Common.{◌≡◌, ℕ, inl, inr, ◌+◌, ◌<◌, ◌≤◌, List, Contains, Option, None, Some, length, get_or, Ordering, Less, Equal, Greater, refl, sym, ap, subst, ◌∙◌, arith}
use Rattle.std.specs.Prelude.{MatchOption}
use Rattle.std.proofs.lemmas.Bool.{cases_eq, cases_lt}
use Rattle.std.proofs.lemmas.Cmp.{nat_list_cmp_total, on_total, then_total, tied_itself}
use Rattle.std.proofs.lemmas.Map.Keys.{Less-from_sorted}
use Rattle.std.proofs.lemmas.Option.{get_or_from_slice_get, slice_get-get_or, slice_get_read}
use Rattle.std.specs.Cmp.{IsTotalOrder}
use Rattle.std.specs.List.{AllWithin}
use Rattle.std.specs.List.Sorted.{IsStrictlySortedBy}
use Rattle.std.specs.Ordering.{ordering_reverse, ordering_then}
use Rattle.cedar_value.specs.Order.{text_cmp, uid_cmp}
use Rattle.cedar_value.specs.Private.Laws.{uid_total}
use Rattle.cedar_value.specs.Private.Same.{text_same, uid_same}
use Rattle.cedar_value.specs.declared.uid.Uid.{Uid}
use Rattle.cedar_schema_types.specs.Types.{TypeTree, long}
use Rattle.cedar_schema_spec.specs.WellFormed.{environment_cmp}
use Rattle.cedar_schema_spec.specs.declared.environment.Environment.{Environment}
use Rattle.cedar_schema.specs.Positions.{IsEnvironmentAt, IsEnvironmentOf}
use Rattle.cedar_schema.specs.Private.Places.{AreNarrowed, order_to}

environment_total : IsTotalOrder environment_cmp
environment_total = then_total (on_total (λ (e : Environment). e.action) uid_total) (then_total (on_total (λ (e : Environment). e.principal) nat_list_cmp_total) (on_total (λ (e : Environment). e.resource) nat_list_cmp_total))

-- ---- what an answer of the order says

first_equal : (a b : Ordering) → ordering_then a b ≡ Equal → (a ≡ Equal) × (b ≡ Equal)
first_equal Less b h = cc
first_equal Equal b h = (refl, h)
first_equal Greater b h = cc

not_less : (o : Ordering) → o ≡ Equal → o ≡ Less → ⊥
not_less o h g = cc

not_greater : (o : Ordering) → o ≡ Equal → o ≡ Greater → ⊥
not_greater o h g = cc

before : (k middle : ℕ) → k < middle + 1 → (k ≡ middle → ⊥) → k < middle
before k middle upto other = grind arith

apart : (middle k : ℕ) → middle ≤ k → (middle ≡ k → ⊥) → middle < k
apart middle k from other = grind arith

module _ (u : Uid) (p r : List ℕ) where
  -- an environment with this action and these types
  abbrev target : Environment
  target = record { action = u; principal = p; resource = r; context = long }

  pub equal_is : (env : Environment) → order_to u p r env ≡ Equal → IsEnvironmentOf u p r env
  equal_is env h =
      let first = first_equal (uid_cmp env.action u) (ordering_then (text_cmp env.principal p) (text_cmp env.resource r)) h in
      let second = first_equal (text_cmp env.principal p) (text_cmp env.resource r) first.1 in
      record { action = uid_same env.action u first.0; principal = text_same env.principal p second.0; resource = text_same env.resource r second.1 }

  pub is_equal : (env : Environment) → IsEnvironmentOf u p r env → order_to u p r env ≡ Equal
  is_equal env is =
      let same : order_to u p r env ≡ order_to u p r target = rw (is.action, is.principal, is.resource) refl in
      same ∙ tied_itself environment_total target

  reverse_less : (env : Environment) → order_to u p r env ≡ Greater → environment_cmp target env ≡ Less
  reverse_less env h = environment_total.antisymm target env ∙ ap ordering_reverse h

  reverse_greater : (env : Environment) → environment_cmp target env ≡ Less → order_to u p r env ≡ Greater
  reverse_greater env h = environment_total.antisymm env target ∙ ap ordering_reverse h

  module _ (environments : List Environment) (up : IsStrictlySortedBy environment_cmp environments) where
    -- all up to one that is below are below
    pub below_with : (middle : ℕ) → middle < length environments → ((d : Environment) → order_to u p r (get_or environments middle d) ≡ Less)
        → AllWithin (λ env. order_to u p r env ≡ Less) environments 0 (middle + 1)
    below_with middle inside h k d from upto = elim (cases_eq k middle) [
      | inl same ↦ subst (λ (i : ℕ). order_to u p r (get_or environments i d) ≡ Less) (sym same) (h d)
      | inr other ↦ environment_total.trans (get_or environments k d) (get_or environments middle d) target
          (Less-from_sorted environment_cmp environments k middle d up (before k middle upto other) inside) (h d)
    ]

    -- all from one that is above on are above
    pub above_with : (middle : ℕ) → middle < length environments → ((d : Environment) → order_to u p r (get_or environments middle d) ≡ Greater)
        → AllWithin (λ env. order_to u p r env ≡ Greater) environments middle (length environments)
    above_with middle inside h k d from upto = elim (cases_eq middle k) [
      | inl same ↦ subst (λ (i : ℕ). order_to u p r (get_or environments i d) ≡ Greater) same (h d)
      | inr other ↦ reverse_greater (get_or environments k d)
          (environment_total.trans target (get_or environments middle d) (get_or environments k d) (reverse_less (get_or environments middle d) (h d))
          (Less-from_sorted environment_cmp environments middle k d up (apart middle k from other) upto))
    ]

  -- ---- what was read at a place

  module _ (environments : List Environment) (middle : ℕ) (x : Environment) (inside : middle < length environments) (is : x ≡ get_or environments middle x) where
    read_there : (d : Environment) → x ≡ get_or environments middle d
    read_there d = is ∙ sym (get_or_from_slice_get environments middle (get_or environments middle x) d (slice_get-get_or environments middle x inside))

    pub narrowed_up : IsStrictlySortedBy environment_cmp environments → (low high : ℕ) → AreNarrowed environments u p r low high → middle < high → order_to u p r x ≡ Less
        → AreNarrowed environments u p r (middle + 1) high
    narrowed_up up low high narrowed less told = record {
      order = omega (arith, less);
      within = narrowed.within;
      below = below_with environments up middle inside (λ d. subst (λ (e : Environment). order_to u p r e ≡ Less) (read_there d) told);
      above = narrowed.above;
    }

    pub narrowed_down : IsStrictlySortedBy environment_cmp environments → (low high : ℕ) → AreNarrowed environments u p r low high → low ≤ middle → order_to u p r x ≡ Greater
        → AreNarrowed environments u p r low middle
    narrowed_down up low high narrowed from told = record {
      order = from;
      within = omega (arith, inside);
      below = narrowed.below;
      above = above_with environments up middle inside (λ d. subst (λ (e : Environment). order_to u p r e ≡ Greater) (read_there d) told);
    }

    pub found_there : order_to u p r x ≡ Equal → IsEnvironmentAt environments u p r middle
    found_there told = (x, slice_get_read environments (length environments) middle x refl inside is, equal_is x told)

  -- where nothing is left, there is no such environment
  pub none_left : (environments : List Environment) (low high : ℕ) → AreNarrowed environments u p r low high → high ≤ low
      → (env : Environment) → Contains environments env → IsEnvironmentOf u p r env → ⊥
  none_left environments low high narrowed past env (k, inside, is_at) is =
      let equal : order_to u p r (get_or environments k env) ≡ Equal = ap (order_to u p r) is_at ∙ is_equal env is in
      elim (cases_lt k low) [
        | inl less ↦ not_less _ equal (narrowed.below k env (omega arith) less)
        | inr more ↦ not_greater _ equal (narrowed.above k env (omega (arith, past, more)) inside)
      ]

-- what a search gives, said of environments with every context
pub none_has : (environments : List Environment) (u : Uid) (p r : List ℕ) (found : Option ℕ)
    → MatchOption found ((env : Environment) → Contains environments env → IsEnvironmentOf u p r env → ⊥) (IsEnvironmentAt environments u p r)
    → MatchOption found ((t : TypeTree) → Contains environments (record { action = u; principal = p; resource = r; context = t }) → ⊥) (IsEnvironmentAt environments u p r)
none_has environments u p r None h = λ t m. h (record { action = u; principal = p; resource = r; context = t }) m (record { action = refl; principal = refl; resource = refl })
none_has environments u p r (Some position) h = h
