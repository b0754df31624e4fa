-- The search for what a list leads to: a row grows along links, or by the row of a number whose links were searched before.
use Rattle.std.proofs.Common.{◌≡◌, ◌↔◌, ℕ, zero, suc, ◌+◌, ◌<◌, ◌≤◌, ◌⊎◌, ◌||◌, inl, inr, ⊎_elim, Bool, true, false, cond, nat_eq, List, [], ◌∷◌, ◌++◌, length, refl, sym, ap, subst, ◌∙◌, arith, Contains, IsTrue, eq-eqb}
use Rattle.std.proofs.lemmas.Bool.{cases_eq, cases_lt}
use Rattle.std.proofs.lemmas.List.{length-append}
use Rattle.std.proofs.lemmas.List.Elements.{Contains-append_left, Contains-append_right, Contains-append_cases, Contains-push, Contains-push_cases}
use Rattle.base_bits.specs.Bits.{has_bit}
use Rattle.base_reach.specs.Closure.{LeadsTo, one_link, more_links, IsClosure}
use Rattle.base_reach.proofs.Chains.{link_more, chain_on}
use Rattle.base_reach.proofs.Listed.{nowhere}
use Rattle.base_reach.proofs.Searching.{Gains, IsMet}
use Rattle.base_search.specs.Links.{IsAhead}

-- ---- what is ahead of a list

module _ (links : ℕ → List ℕ) where
  ahead_first : (list : List ℕ) (n : ℕ) → Contains list n → IsAhead links list n
  ahead_first list n m = (n, m, inl refl)

  ahead_on : (list : List ℕ) (x n : ℕ) → IsAhead links list x → LeadsTo links x n → IsAhead links list n
  ahead_on list x n (p, m, inl same) rest = (p, m, inr (subst (λ y. LeadsTo links y n) (sym same) rest))
  ahead_on list x n (p, m, inr chain) rest = (p, m, inr (chain_on chain rest))

  pub leads_ahead : (u n : ℕ) → LeadsTo links u n → IsAhead links (links u) n
  leads_ahead u n (one_link l) = (n, l, inl refl)
  leads_ahead u n (more_links {p = p} l rest) = (p, l, inr rest)

  pub ahead_leads : (u n : ℕ) → IsAhead links (links u) n → LeadsTo links u n
  ahead_leads u n (p, l, inl same) = one_link (subst (Contains (links u)) same l)
  ahead_leads u n (p, l, inr rest) = more_links l rest

-- ---- the search's steps

-- where a search is: all that was met is ahead, and what was looked at has its links met
pub record IsSearching (links : ℕ → List ℕ) (list : List ℕ) (s : ℕ → Bool) (pending : List ℕ) : Type 0 where
  pub found : (v : ℕ) → s v ≡ true → IsAhead links list v
  pub waiting : (v : ℕ) → Contains pending v → IsAhead links list v
  pub starts : (p : ℕ) → Contains list p → IsMet s pending p
  pub closed : (v p : ℕ) → s v ≡ true → Contains (links v) p → IsMet s pending p

or_left : (a b c : Bool) → c ≡ (a || b) → a ≡ true → c ≡ true
or_left true b c e h = e
or_left false b c e h = cc

or_right : (a b c : Bool) → c ≡ (a || b) → b ≡ true → c ≡ true
or_right true b c e h = e
or_right false b c e h = e ∙ h

or_cases : (a b c : Bool) → c ≡ (a || b) → c ≡ true → (a ≡ true) ⊎ (b ≡ true)
or_cases true b c e h = inl refl
or_cases false b c e h = inr (sym e ∙ h)

same_number : (n m : ℕ) → nat_eq n m ≡ true → n ≡ m
same_number n m e = grind (arith, e)

-- the row gains the bit of number n
abbrev pub GainsBit : List ℕ → List ℕ → ℕ → Type 0
GainsBit old new n = (m : ℕ) → has_bit new m ≡ (has_bit old m || nat_eq n m)

pub Gains-bit : (old new : List ℕ) (n : ℕ) → GainsBit old new n → Gains (has_bit old) (has_bit new) n
Gains-bit old new n g = record {
  kept = λ m h. or_left (has_bit old m) (nat_eq n m) (has_bit new m) (g m) h;
  gained = or_right (has_bit old n) (nat_eq n n) (has_bit new n) (g n) (eq-eqb n n refl);
  only = λ m h. ⊎_elim (λ was. inl was) (λ e. inr (same_number n m e)) (or_cases (has_bit old m) (nat_eq n m) (has_bit new m) (g m) h);
}

-- the last test is true of what either of two is true of
abbrev pub Joins : (ℕ → Bool) → (ℕ → Bool) → (ℕ → Bool) → Type 0
Joins a b c = (v : ℕ) → c v ≡ (a v || b v)

module _ (links : ℕ → List ℕ) (list : List ℕ) where
  pub search_start : (s : ℕ → Bool) (pending : List ℕ) → ((v : ℕ) → s v ≡ false) → pending ≡ list → IsSearching links list s pending
  search_start s pending empty is = record {
    found = λ v h. absurd (nothing v h);
    waiting = λ v h. ahead_first links list v (subst (λ us. Contains us v) is h);
    starts = λ p l. inr (subst (λ us. Contains us p) (sym is) l);
    closed = λ v p h l. absurd (nothing v h);
  }
    where
      nothing : (v : ℕ) → s v ≡ true → ⊥
      nothing v h = let e = empty v in cc

  -- the next was found before: its links have been met
  pub search_again : (x : ℕ) (s : ℕ → Bool) (rest : List ℕ) → s x ≡ true → IsSearching links list s (rest ++ x ∷ []) → IsSearching links list s rest
  search_again x s rest known h = record {
    found = h.found;
    waiting = λ v m. h.waiting v (Contains-append_left rest (x ∷ []) v m);
    starts = λ p l. on p (h.starts p l);
    closed = λ v p t l. on p (h.closed v p t l);
  }
    where
      on : (p : ℕ) → IsMet s (rest ++ x ∷ []) p → IsMet s rest p
      on p (inl there) = inl there
      on p (inr due) = ⊎_elim (λ before. inr before) (λ now. inl (subst (λ v. s v ≡ true) now known)) (Contains-push_cases rest x p due)

  -- the next is new: its links are to be looked at
  pub search_new : (x : ℕ) (old new : ℕ → Bool) (rest pending : List ℕ) → Gains old new x → pending ≡ rest ++ links x → IsSearching links list old (rest ++ x ∷ []) → IsSearching links list new pending
  search_new x old new rest pending g is s =
      subst (IsSearching links list new) (sym is) (record {
        found = λ v h. ⊎_elim (λ was. s.found v was) (λ same. subst (IsAhead links list) same ahead) (g.only v h);
        waiting = λ v h. ⊎_elim (λ before. s.waiting v (Contains-append_left rest (x ∷ []) v before)) (λ link. ahead_on links list x v ahead (one_link link)) (Contains-append_cases rest (links x) v h);
        starts = λ p l. on p (s.starts p l);
        closed = λ v p h l. ⊎_elim (λ was. on p (s.closed v p was l)) (λ same. inr (Contains-append_right rest (links x) p (subst (λ y. Contains (links y) p) (sym same) l))) (g.only v h);
      })
    where
      ahead : IsAhead links list x
      ahead = s.waiting x (Contains-push rest x)

      on : (p : ℕ) → IsMet old (rest ++ x ∷ []) p → IsMet new (rest ++ links x) p
      on p (inl there) = inl (g.kept p there)
      on p (inr due) = ⊎_elim (λ before. inr (Contains-append_left rest (links x) p before)) (λ now. inl (subst (λ v. new v ≡ true) now g.gained)) (Contains-push_cases rest x p due)

  -- the next is new, and what its links lead to is known: all of that is found
  pub search_join : (x : ℕ) (old mid known new : ℕ → Bool) (rest : List ℕ) → Gains old mid x → IsClosure links x known → Joins mid known new → IsSearching links list old (rest ++ x ∷ []) → IsSearching links list new rest
  search_join x old mid known new rest g closure j s = record {
    found = λ v h. ⊎_elim (λ m. ⊎_elim (λ was. s.found v was) (λ same. subst (IsAhead links list) same ahead) (g.only v m)) (λ k. ahead_on links list x v ahead ((closure v).0 k)) (either v h);
    waiting = λ v h. s.waiting v (Contains-append_left rest (x ∷ []) v h);
    starts = λ p l. on p (s.starts p l);
    closed = λ v p h l. ⊎_elim
        (λ m. ⊎_elim (λ was. on p (s.closed v p was l)) (λ same. inl (in_known p (one_link (subst (λ y. Contains (links y) p) (sym same) l)))) (g.only v m))
        (λ k. inl (in_known p (link_more ((closure v).0 k) l)))
        (either v h);
  }
    where
      ahead : IsAhead links list x
      ahead = s.waiting x (Contains-push rest x)

      either : (v : ℕ) → new v ≡ true → (mid v ≡ true) ⊎ (known v ≡ true)
      either v h = or_cases (mid v) (known v) (new v) (j v) h

      in_known : (p : ℕ) → LeadsTo links x p → new p ≡ true
      in_known p b = or_right (mid p) (known p) (new p) (j p) ((closure p).1 b)

      on : (p : ℕ) → IsMet old (rest ++ x ∷ []) p → IsMet new rest p
      on p (inl there) = inl (or_left (mid p) (known p) (new p) (j p) (g.kept p there))
      on p (inr due) = ⊎_elim (λ before. inr before) (λ now. inl (or_left (mid p) (known p) (new p) (j p) (subst (λ v. mid v ≡ true) now g.gained))) (Contains-push_cases rest x p due)

  met : (s : ℕ → Bool) (p : ℕ) → IsMet s [] p → s p ≡ true
  met s p (inl found) = found
  met s p (inr due) = absurd (nowhere p due)

  along : (s : ℕ → Bool) → IsSearching links list s [] → {x v : ℕ} → s x ≡ true → LeadsTo links x v → s v ≡ true
  along s h found (one_link {u = x} {v = v} l) = met s v (h.closed x v found l)
  along s h found (more_links {u = x} {p = p} l rest) = along s h (met s p (h.closed x p found l)) rest

  reached : (s : ℕ → Bool) → IsSearching links list s [] → (v : ℕ) → IsAhead links list v → s v ≡ true
  reached s h v (p, m, inl same) = subst (λ y. s y ≡ true) same (met s p (h.starts p m))
  reached s h v (p, m, inr chain) = along s h (met s p (h.starts p m)) chain

  -- nothing is left to be looked at
  pub search_end : (s : ℕ → Bool) → IsSearching links list s [] → (v : ℕ) → IsTrue (s v) ↔ IsAhead links list v
  search_end s h v = (h.found v, reached s h v)

pub none_left : (pending : List ℕ) → length pending ≡ 0 → pending ≡ []
none_left [] h = refl
none_left (p ∷ pending) h = absurd (omega arith)

-- ---- the search ends

-- how many links lead from those below a bound that were not found
unfoldable pub links_left : (ℕ → List ℕ) → (ℕ → Bool) → ℕ → ℕ
links_left links s zero = 0
links_left links s (suc n) = cond (s n) 0 (length (links n)) + links_left links s n

module _ (links : ℕ → List ℕ) where
  fewer : (u : ℕ) (old new : Bool) → (old ≡ true → new ≡ true) → cond new 0 (length (links u)) ≤ cond old 0 (length (links u))
  fewer u true true h = omega arith
  fewer u true false h = let e = h refl in cc
  fewer u false true h = omega arith
  fewer u false false h = omega arith

  links_left-grown : (old new : ℕ → Bool) → ((v : ℕ) → old v ≡ true → new v ≡ true) → (n : ℕ) → links_left links new n ≤ links_left links old n
  unfolding links_left
  links_left-grown old new kept zero = omega arith
  links_left-grown old new kept (suc n) =
      let first = fewer n (old n) (new n) (kept n) in
      let rest = links_left-grown old new kept n in
      omega arith

  -- the links of what is found are left no more
  links_left-gained : (old new : ℕ → Bool) (x : ℕ) → Gains old new x → old x ≡ false → (n : ℕ) → x < n → links_left links new n + length (links x) ≤ links_left links old n
  unfolding links_left
  links_left-gained old new x g absent zero within = absurd (omega arith)
  links_left-gained old new x g absent (suc n) within = elim (cases_eq x n) [
    | inl same ↦ (let now : new n ≡ true = subst (λ v. new v ≡ true) same g.gained in
        let was : old n ≡ false = subst (λ v. old v ≡ false) same absent in
        let long : length (links n) ≡ length (links x) = ap (λ v. length (links v)) (sym same) in
        let rest = links_left-grown old new g.kept n in
        rw (now, was) (omega arith))
    | inr other ↦ (let first = fewer n (old n) (new n) (g.kept n) in
        let rest = links_left-gained old new x g absent n (omega arith) in
        omega arith)
  ]

  links_left-new : (old new : ℕ → Bool) (x n : ℕ) → Gains old new x → old x ≡ false → (n ≤ x → links x ≡ []) → links_left links new n + length (links x) ≤ links_left links old n
  links_left-new old new x n g absent past = elim (cases_lt x n) [
    | inl within ↦ links_left-gained old new x g absent n within
    | inr beyond ↦ (let none : length (links x) ≡ 0 = ap length (past beyond) in
        let less = links_left-grown old new g.kept n in
        omega arith)
  ]

  -- one more is found, and its links in place of it leave less to do
  pub new_smaller : (old new : ℕ → Bool) (x n : ℕ) (before rest after : List ℕ) → Gains old new x → old x ≡ false → (n ≤ x → links x ≡ []) → before ≡ rest ++ x ∷ [] → after ≡ rest ++ links x
      → links_left links new n + length after < links_left links old n + length before
  new_smaller old new x n before rest after g absent past is more =
      let less = links_left-new old new x n g absent past in
      let was : length before ≡ length rest + 1 = ap length is ∙ length-append rest (x ∷ []) in
      let now : length after ≡ length rest + length (links x) = ap length more ∙ length-append rest (links x) in
      omega arith

  -- the next taken off, and more found, leave less to do
  pub join_smaller : (old mid known new : ℕ → Bool) (x n : ℕ) (before rest : List ℕ) → Gains old mid x → Joins mid known new → before ≡ rest ++ x ∷ [] → links_left links new n + length rest < links_left links old n + length before
  join_smaller old mid known new x n before rest g j is =
      let less = links_left-grown old new (λ v h. or_left (mid v) (known v) (new v) (j v) (g.kept v h)) n in
      let was : length before ≡ length rest + 1 = ap length is ∙ length-append rest (x ∷ []) in
      omega arith
