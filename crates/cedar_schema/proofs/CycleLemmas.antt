-- 304 is given exactly where some common type leads to itself.
use Rattle.std.proofs.Common.{◌≡◌, ◌≢◌, ◌⊎◌, inl, inr, ⊎_elim, ℕ, zero, suc, ◌<◌, ◌≤◌, Bool, true, false, cond, not, ◌&&◌, nat_eq, nat_le, List, [], ◌∷◌, ◌++◌, length, filter, Contains, Option, Some, None, option_map, unwrap_or, refl, sym, ap, subst, ◌∙◌, arith, eqb-true, eq-eqb}
use Rattle.std.specs.List.{slice_get}
use Rattle.std.proofs.lemmas.Option.{slice_get-get_or, slice_get_within, get_or_from_slice_get}
use Rattle.std.proofs.lemmas.List.Elements.{Contains-append_left, Contains-append_right, Contains-append_cases}
use Rattle.base_reach.specs.Closure.{LeadsTo, one_link, more_links}
use Rattle.base_reach.proofs.Chains.{chain_among}
use Rattle.base_reach.proofs.Listed.{here, there, first_or_later, nowhere, filter-kept}
use Rattle.cedar_schema_json.specs.declared.schema_fault.SchemaFault.{SchemaFault}
use Rattle.cedar_schema_json.specs.declared.schema_fault.SchemaFault.TheVariants.{UnknownType, CommonCycle, TooLarge}
use Rattle.cedar_schema_json.specs.Forms.{FormTree, no_form, boolean_form, long_form, string_form, extension_form, entity_form, set_form, record_form, common_form, FormRows, no_form_rows, form_row}
use Rattle.cedar_schema_json.specs.Expansion.{Table, form_faults, rows_faults, cycle_faults, limit_faults, size, typed}
use Rattle.cedar_schema.specs.Each.{each_faults}
use Rattle.cedar_schema.specs.Schemas.{expansion_faults}
use Rattle.cedar_schema.specs.Cycles.{named_in, named_in_rows, named_by, CyclesAreFound}

-- ---- faults of names

-- a name in the form has the fault
abbrev HasNamed : (ℕ → List SchemaFault) → List ℕ → SchemaFault → Type 0
HasNamed names ps e = (p : ℕ) × Contains ps p × Contains (names p) e

module _ (names : ℕ → List SchemaFault) (e : SchemaFault) where
  named_left : (ps qs : List ℕ) → HasNamed names ps e → HasNamed names (ps ++ qs) e
  named_left ps qs h = (h.0, Contains-append_left ps qs h.0 h.1, h.2)

  named_right : (ps qs : List ℕ) → HasNamed names qs e → HasNamed names (ps ++ qs) e
  named_right ps qs h = (h.0, Contains-append_right ps qs h.0 h.1, h.2)

  mutual
    fault_named : (f : FormTree) → Contains (form_faults names f) e → HasNamed names (named_in f) e
    fault_named no_form h = absurd (nowhere e h)
    fault_named boolean_form h = absurd (nowhere e h)
    fault_named long_form h = absurd (nowhere e h)
    fault_named string_form h = absurd (nowhere e h)
    fault_named (extension_form t) h = absurd (nowhere e h)
    fault_named (entity_form n) h = absurd (nowhere e h)
    fault_named (set_form f) h = fault_named f h
    fault_named (record_form rs) h = rows_named rs h
    fault_named (common_form k) h = (k, here k [], h)

    rows_named : (rs : FormRows) → Contains (rows_faults names rs) e → HasNamed names (named_in_rows rs) e
    rows_named no_form_rows h = absurd (nowhere e h)
    rows_named (form_row k r f rs) h = elim (Contains-append_cases (form_faults names f) (rows_faults names rs) e h) [
      | inl x ↦ named_left (named_in f) (named_in_rows rs) (fault_named f x)
      | inr y ↦ named_right (named_in f) (named_in_rows rs) (rows_named rs y)
    ]

  mutual
    named_fault : (f : FormTree) (p : ℕ) → Contains (named_in f) p → Contains (names p) e → Contains (form_faults names f) e
    named_fault no_form p m h = absurd (nowhere p m)
    named_fault boolean_form p m h = absurd (nowhere p m)
    named_fault long_form p m h = absurd (nowhere p m)
    named_fault string_form p m h = absurd (nowhere p m)
    named_fault (extension_form t) p m h = absurd (nowhere p m)
    named_fault (entity_form n) p m h = absurd (nowhere p m)
    named_fault (set_form f) p m h = named_fault f p m h
    named_fault (record_form rs) p m h = named_rows rs p m h
    named_fault (common_form k) p m h = elim (first_or_later k [] p m) [
      | inl is ↦ subst (λ x. Contains (names x) e) (sym is) h
      | inr r ↦ absurd (nowhere p r)
    ]

    named_rows : (rs : FormRows) (p : ℕ) → Contains (named_in_rows rs) p → Contains (names p) e → Contains (rows_faults names rs) e
    named_rows no_form_rows p m h = absurd (nowhere p m)
    named_rows (form_row k r f rs) p m h = elim (Contains-append_cases (named_in f) (named_in_rows rs) p m) [
      | inl x ↦ Contains-append_left (form_faults names f) (rows_faults names rs) e (named_fault f p x h)
      | inr y ↦ Contains-append_right (form_faults names f) (rows_faults names rs) e (named_rows rs p y h)
    ]

-- ---- so many names can be followed one after another

abbrev Follows : (ℕ → List ℕ) → ℕ → ℕ → Type 0
Follows links zero u = Unit {0}
Follows links (suc n) u = (p : ℕ) × Contains (links u) p × Follows links n p

-- the faults of what is at a place
abbrev faults_of_place : (ℕ → List SchemaFault) → Option FormTree → List SchemaFault
faults_of_place names o = unwrap_or (option_map (form_faults names) o) (UnknownType ∷ [])

module _ (t : Table) where
  linked : (k p : ℕ) (o : Option FormTree) → slice_get t k ≡ o → Contains (unwrap_or (option_map named_in o) []) p → Contains (named_by t k) p
  linked k p o is h = subst (λ (x : Option FormTree). Contains (unwrap_or (option_map named_in x) []) p) (sym is) h

  follows_cycle : (n k : ℕ) → Contains (cycle_faults t n k) CommonCycle → Follows (named_by t) n k
  unfolding cycle_faults
  follows_cycle zero k h = tt
  follows_cycle (suc n) k h = at (slice_get t k) refl h (follows_cycle n)
    where
      at : (o : Option FormTree) → slice_get t k ≡ o → Contains (faults_of_place (cycle_faults t n) o) CommonCycle → ((p : ℕ) → Contains (cycle_faults t n p) CommonCycle → Follows (named_by t) n p)
          → Follows (named_by t) (suc n) k
      at None is m later = elim (first_or_later UnknownType [] CommonCycle m) [
        | inl same ↦ cc
        | inr r ↦ absurd (nowhere CommonCycle r)
      ]
      at (Some f) is m later = let p = fault_named (cycle_faults t n) CommonCycle f m in (p.0, linked k p.0 (Some f) is p.1, later p.0 p.2)

  cycle_follows : (n k : ℕ) → Follows (named_by t) n k → Contains (cycle_faults t n k) CommonCycle
  unfolding cycle_faults
  cycle_follows zero k h = here CommonCycle []
  cycle_follows (suc n) k (p, m, rest) = at (slice_get t k) m (cycle_follows n p rest)
    where
      at : (o : Option FormTree) → Contains (unwrap_or (option_map named_in o) []) p → Contains (cycle_faults t n p) CommonCycle → Contains (faults_of_place (cycle_faults t n) o) CommonCycle
      at None m later = absurd (nowhere p m)
      at (Some f) m later = named_fault (cycle_faults t n) CommonCycle f p m later

-- ---- as many names as there are places lead back

-- the links without those of one place
abbrev apart : (ℕ → List ℕ) → ℕ → ℕ → List ℕ
apart links u x = cond (nat_eq x u) [] (links x)

apart_case : (links : ℕ → List ℕ) (x p : ℕ) (b : Bool) → Contains (cond b [] (links x)) p → (b ≡ false) × Contains (links x) p
apart_case links x p true m = absurd (nowhere p m)
apart_case links x p false m = (refl, m)

apart_was : (links : ℕ → List ℕ) (u x p : ℕ) → Contains (apart links u x) p → (nat_eq x u ≡ false) × Contains (links x) p
apart_was links u x p m = apart_case links x p (nat_eq x u) m

apart_stays : (links : ℕ → List ℕ) (u x p : ℕ) → nat_eq x u ≡ false → Contains (links x) p → Contains (apart links u x) p
apart_stays links u x p h m = subst (λ b. Contains (cond b [] (links x)) p) (sym h) m

-- a chain of names comes back to the place, or never starts a link there
avoid : (links : ℕ → List ℕ) (u n x : ℕ) → Follows links n x → Follows (apart links u) n x ⊎ ((x ≡ u) ⊎ LeadsTo links x u)
avoid links u zero x h = inl tt
avoid links u (suc n) x (p, m, rest) = at (nat_eq x u) refl (avoid links u n p rest)
  where
    at : (b : Bool) → nat_eq x u ≡ b → Follows (apart links u) n p ⊎ ((p ≡ u) ⊎ LeadsTo links p u) → Follows (apart links u) (suc n) x ⊎ ((x ≡ u) ⊎ LeadsTo links x u)
    at true is later = inr (inl (eqb-true x u is))
    at false is (inl on) = inl (p, apart_stays links u x p is m, on)
    at false is (inr (inl same)) = inr (inr (one_link (subst (Contains (links x)) same m)))
    at false is (inr (inr chain)) = inr (inr (more_links m chain))

-- the list without one of its elements
abbrev without : ℕ → List ℕ → List ℕ
without u us = filter (λ x. not (nat_eq x u)) us

shorter_case : (x : ℕ) (us xs : List ℕ) (b : Bool) → length us ≤ length xs → length (cond (not b) (x ∷ us) us) ≤ length (x ∷ xs)
shorter_case x us xs true h = omega arith
shorter_case x us xs false h = omega arith

without_le : (u : ℕ) (us : List ℕ) → length (without u us) ≤ length us
without_le u [] = omega arith
without_le u (x ∷ xs) = shorter_case x (without u xs) xs (nat_eq x u) (without_le u xs)

fewer_case : (x : ℕ) (us xs : List ℕ) (b : Bool) → length us ≤ length xs → (b ≡ true) ⊎ (length us < length xs) → length (cond (not b) (x ∷ us) us) < length (x ∷ xs)
fewer_case x us xs true h less = omega arith
fewer_case x us xs false h (inl is) = cc
fewer_case x us xs false h (inr less) = omega arith

without_less : (u : ℕ) (us : List ℕ) → Contains us u → length (without u us) < length us
without_less u [] m = absurd (nowhere u m)
without_less u (x ∷ xs) m = fewer_case x (without u xs) xs (nat_eq x u) (without_le u xs) (⊎_elim (λ e. inl (eq-eqb x u e)) (λ r. inr (without_less u xs r)) (first_or_later x xs u m))

abbrev Sources : (ℕ → List ℕ) → List ℕ → Type 0
Sources links us = (u v : ℕ) → Contains (links u) v → Contains us u

sources_without : (links : ℕ → List ℕ) (u : ℕ) (us : List ℕ) → Sources links us → Sources (apart links u) (without u us)
sources_without links u us listed x p m = let was = apart_was links u x p m in filter-kept (λ y. not (nat_eq y u)) us x (listed x p was.1) (ap not was.0)

returns_to : (n : ℕ) (links : ℕ → List ℕ) (us : List ℕ) → Sources links us → length us ≤ n → (u : ℕ) → Follows links (suc n) u → (k : ℕ) × LeadsTo links k k
returns_to zero links us listed short u (p, m, rest) = let at = listed u p m in absurd (omega (arith, at.1))
returns_to (suc n) links us listed short u (p, m, rest) = elim (avoid links u (suc n) p rest) [
  | inl on ↦ (let less = without_less u us (listed u p m) in
      let room : length (without u us) ≤ n = omega arith in
      let found = returns_to n (apart links u) (without u us) (sources_without links u us listed) room p on in
      (found.0, chain_among (λ x v l. (apart_was links u x v l).1) found.1))
  | inr back ↦ elim back [
    | inl same ↦ (u, one_link (subst (Contains (links u)) same m))
    | inr chain ↦ (u, more_links m chain)
  ]
]

-- a place that leads to itself can be followed as far as one likes
follows_on : (links : ℕ → List ℕ) (k : ℕ) → LeadsTo links k k → (n u : ℕ) → LeadsTo links u k → Follows links n u
follows_on links k round zero u chain = tt
follows_on links k round (suc n) u (one_link l) = (k, l, follows_on links k round n k round)
follows_on links k round (suc n) u (more_links {p = p} l rest) = (p, l, follows_on links k round n p rest)

-- ---- the places of a table

abbrev places : ℕ → List ℕ
places zero = []
places (suc n) = n ∷ places n

length-places : (n : ℕ) → length (places n) ≤ n
length-places zero = omega arith
length-places (suc n) = let rest = length-places n in omega arith

in_places : (n u : ℕ) → u < n → Contains (places n) u
in_places zero u h = absurd (omega arith)
in_places (suc n) u h = at (nat_eq u n) refl (in_places n u)
  where
    at : (b : Bool) → nat_eq u n ≡ b → (u < n → Contains (places n) u) → Contains (n ∷ places n) u
    at true is later = subst (Contains (n ∷ places n)) (sym (eqb-true u n is)) (here n (places n))
    at false is later = let other : u ≢ n = λ e. (let same : nat_eq u n ≡ true = eq-eqb u n e in cc) in there n (places n) u (later (omega arith))

sources : (t : Table) → Sources (named_by t) (places (length t))
sources t u v h = at (slice_get t u) refl h
  where
    at : (o : Option FormTree) → slice_get t u ≡ o → Contains (unwrap_or (option_map named_in o) []) v → Contains (places (length t)) u
    at None is m = absurd (nowhere v m)
    at (Some f) is m = in_places (length t) u (slice_get_within t u f is)

-- ---- faults of all

each_has : {A : Type 0} (f : A → List SchemaFault) (xs : List A) (e : SchemaFault) → Contains (each_faults f xs) e → (x : A) × Contains xs x × Contains (f x) e
unfolding each_faults
each_has f [] e h = absurd (nowhere e h)
each_has f (x ∷ xs) e h = elim (Contains-append_cases (f x) (each_faults f xs) e h) [
  | inl now ↦ (x, here x xs, now)
  | inr later ↦ (let rest = each_has f xs e later in (rest.0, there x xs rest.0 rest.1, rest.2))
]

has_each : {A : Type 0} (f : A → List SchemaFault) (xs : List A) (x : A) (e : SchemaFault) → Contains xs x → Contains (f x) e → Contains (each_faults f xs) e
unfolding each_faults
has_each f [] x e m h = absurd (nowhere x m)
has_each f (y ∷ ys) x e m h = elim (first_or_later y ys x m) [
  | inl is ↦ Contains-append_left (f y) (each_faults f ys) e (subst (λ z. Contains (f z) e) (sym is) h)
  | inr later ↦ Contains-append_right (f y) (each_faults f ys) e (has_each f ys x e later h)
]

too_large : (b : Bool) → Contains (cond b [] (TooLarge ∷ [])) CommonCycle → ⊥
too_large true h = nowhere CommonCycle h
too_large false h = elim (first_or_later TooLarge [] CommonCycle h) [ inl same ↦ cc | inr r ↦ nowhere CommonCycle r ]

module _ (t : Table) (f : FormTree) where
  expansion_named : Contains (expansion_faults t f) CommonCycle → HasNamed (cycle_faults t (length t)) (named_in f) CommonCycle
  unfolding typed
  expansion_named h = elim (Contains-append_cases (limit_faults t f) (form_faults (cycle_faults t (length t)) f) CommonCycle h) [
    | inl limit ↦ absurd (too_large (nat_le (size t (length t) f).nodes 10000 && nat_le (size t (length t) f).height 100) limit)
    | inr named ↦ fault_named (cycle_faults t (length t)) CommonCycle f named
  ]

  named_expansion : (p : ℕ) → Contains (named_in f) p → Contains (cycle_faults t (length t) p) CommonCycle → Contains (expansion_faults t f) CommonCycle
  unfolding typed
  named_expansion p m h = Contains-append_right (limit_faults t f) (form_faults (cycle_faults t (length t)) f) CommonCycle (named_fault (cycle_faults t (length t)) CommonCycle f p m h)

pub cycles_found : CyclesAreFound
cycles_found t = (there_is, found)
  where
    there_is : Contains (each_faults (expansion_faults t) t) CommonCycle → (k : ℕ) × LeadsTo (named_by t) k k
    there_is h =
        let one = each_has (expansion_faults t) t CommonCycle h in
        let f = one.0 in
        let k = (one.1).0 in
        let at : slice_get t k ≡ Some f = slice_get-get_or t k f (one.1).1 ∙ ap Some (one.1).2 in
        let p = expansion_named t f one.2 in
        let chain : Follows (named_by t) (suc (length t)) k = (p.0, linked t k p.0 (Some f) at p.1, follows_cycle t (length t) p.0 p.2) in
        returns_to (length t) (named_by t) (places (length t)) (sources t) (length-places (length t)) k chain

    found : (k : ℕ) × LeadsTo (named_by t) k k → Contains (each_faults (expansion_faults t) t) CommonCycle
    found (k, round) = at (slice_get t k) refl (follows_on (named_by t) k round (suc (length t)) k round)
      where
        at : (o : Option FormTree) → slice_get t k ≡ o → Follows (named_by t) (suc (length t)) k → Contains (each_faults (expansion_faults t) t) CommonCycle
        at None is (p, m, rest) = absurd (nowhere p (subst (λ (x : Option FormTree). Contains (unwrap_or (option_map named_in x) []) p) is m))
        at (Some f) is (p, m, rest) =
            has_each (expansion_faults t) t f CommonCycle (k, slice_get_within t k f is, get_or_from_slice_get t k f f is)
            (named_expansion t f p (subst (λ (x : Option FormTree). Contains (unwrap_or (option_map named_in x) []) p) is m) (cycle_follows t (length t) p rest))
