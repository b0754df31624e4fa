-- The search for what links lead to: a test of what was found, which grows along links until it is closed under them.
use Rattle.std.proofs.Common.{◌≡◌, ℕ, ◌+◌, ◌<◌, ◌≤◌, ◌⊎◌, inl, inr, ⊎_elim, Bool, true, false, cond, not, Bor, List, [], ◌∷◌, ◌++◌, length, refl, sym, ap, subst, ◌∙◌, arith, Contains}
use Rattle.std.specs.BTreeSet.{BTreeSet, contains, Updates}
use Rattle.std.specs.Ordering.{is_eq}
use Rattle.std.specs.declared.cmp.Ordering.{Ordering}
use Rattle.std.specs.declared.cmp.Ordering.TheVariants.{Less, Equal, Greater}
use Rattle.std.proofs.lemmas.List.Elements.{Contains-append_left, Contains-append_right, Contains-append_cases, Contains-push, Contains-push_cases}
use Rattle.std.proofs.lemmas.List.{append-nil, map-append, length-append, length-map}
use Rattle.base_reach.specs.Closure.{LeadsTo, one_link, more_links, IsClosure, AreListed}
use Rattle.base_reach.specs.Private.Lent.{lent}
use Rattle.base_reach.proofs.Chains.{link_more}
use Rattle.base_reach.proofs.Listed.{first_or_later, nowhere}

-- the new test is true of what the old one is true of, and of one element more
pub record Gains {A : Type 0} (old new : A → Bool) (u : A) : Type 0 where
  pub kept : (v : A) → old v ≡ true → new v ≡ true
  pub gained : new u ≡ true
  pub only : (v : A) → new v ≡ true → (old v ≡ true) ⊎ (u ≡ v)

-- it was found, or is still to be looked at
abbrev pub IsMet : {A : Type 0} → (A → Bool) → List A → A → Type 0
IsMet s pending v = (s v ≡ true) ⊎ Contains pending v

-- where a search is: links lead to all that was met, and what was looked at has its links met
pub record IsSearching {A : Type 0} (links : A → List A) (u : A) (s : A → Bool) (pending : List A) : Type 0 where
  pub found : (v : A) → s v ≡ true → LeadsTo links u v
  pub waiting : (v : A) → Contains pending v → LeadsTo links u v
  pub starts : (p : A) → Contains (links u) p → IsMet s pending p
  pub closed : (v p : A) → s v ≡ true → Contains (links v) p → IsMet s pending p

-- ---- a set that gains a key

equal_from : (o : Ordering) → is_eq o ≡ true → o ≡ Equal
equal_from Less h = cc
equal_from Equal h = refl
equal_from Greater h = cc

kept_case : (old new : Bool) (b : Bool) → new ≡ cond b true old → old ≡ true → new ≡ true
kept_case old new true e h = e
kept_case old new false e h = e ∙ h

only_case : {A : Type 0} (R : A → A → Ordering) → ((u v : A) → R u v ≡ Equal → u ≡ v) → (old new : Bool) (u v : A) (b : Bool) → is_eq (R u v) ≡ b → new ≡ cond b true old → new ≡ true → (old ≡ true) ⊎ (u ≡ v)
only_case R ties old new u v true tie e h = inr (ties u v (equal_from (R u v) tie))
only_case R ties old new u v false tie e h = inl (sym e ∙ h)

pub Gains-updates : {A : Type 0} (R : A → A → Ordering) → ((u v : A) → R u v ≡ Equal → u ≡ v) → (old new : BTreeSet A) (u : A) → Updates R old new u true → Gains (contains R old) (contains R new) u
Gains-updates R ties old new u updates = record {
  kept = λ v h. kept_case (contains R old v) (contains R new v) (is_eq (R u v)) (updates.0 v) h;
  gained = updates.1;
  only = λ v h. only_case R ties (contains R old v) (contains R new v) u v (is_eq (R u v)) refl (updates.0 v) h;
}

-- ---- the search's steps

module _ {A : Type 0} (links : A → List A) where
  pub search_start : (u : A) (s : A → Bool) (pending : List A) → ((v : A) → s v ≡ false) → pending ≡ links u → IsSearching links u s pending
  search_start u s pending empty is = record {
    found = λ v h. absurd (nothing v h);
    waiting = λ v h. one_link (subst (λ us. Contains us v) is h);
    starts = λ p l. inr (subst (λ us. Contains us p) (sym is) l);
    closed = λ v p h l. absurd (nothing v h);
  }
    where
      nothing : (v : A) → s v ≡ true → ⊥
      nothing v h = let e = empty v in cc

  -- what is met stays so, where the next to be looked at has been found
  met_on : (old new : A → Bool) (rest more : List A) (u p : A) → Gains old new u → IsMet old (rest ++ u ∷ []) p → IsMet new (rest ++ more) p
  met_on old new rest more u p g (inl found) = inl (g.kept p found)
  met_on old new rest more u p g (inr due) = elim (Contains-push_cases rest u p due) [
    | inl before ↦ inr (Contains-append_left rest more p before)
    | inr now ↦ inl (subst (λ v. new v ≡ true) now g.gained)
  ]

  -- the next was found before: its links have been met
  pub search_known : (u x : A) (old new : A → Bool) (rest : List A) → Gains old new x → old x ≡ true → IsSearching links u old (rest ++ x ∷ []) → IsSearching links u new rest
  search_known u x old new rest g known s = record {
    found = λ v h. ⊎_elim (λ was. s.found v was) (λ same. subst (LeadsTo links u) same (s.found x known)) (g.only v h);
    waiting = λ v h. s.waiting v (Contains-append_left rest (x ∷ []) v h);
    starts = λ p l. on p (s.starts p l);
    closed = λ v p h l. on p (⊎_elim (λ was. s.closed v p was l) (λ same. s.closed x p known (subst (λ y. Contains (links y) p) (sym same) l)) (g.only v h));
  }
    where
      on : (p : A) → IsMet old (rest ++ x ∷ []) p → IsMet new rest p
      on p m = subst (λ us. IsMet new us p) (append-nil rest) (met_on old new rest [] x p g m)

  -- the next is new: its links are to be looked at
  pub search_new : (u x : A) (old new : A → Bool) (rest pending : List A) → Gains old new x → pending ≡ rest ++ links x → IsSearching links u old (rest ++ x ∷ []) → IsSearching links u new pending
  search_new u x old new rest pending g is s =
      subst (IsSearching links u new) (sym is) (record {
        found = λ v h. ⊎_elim (λ was. s.found v was) (λ same. subst (LeadsTo links u) same ahead) (g.only v h);
        waiting = λ v h. ⊎_elim (λ before. s.waiting v (Contains-append_left rest (x ∷ []) v before)) (λ link. link_more ahead link) (Contains-append_cases rest (links x) v h);
        starts = λ p l. on p (s.starts p l);
        closed = λ v p h l. ⊎_elim (λ was. on p (s.closed v p was l)) (λ same. inr (Contains-append_right rest (links x) p (subst (λ y. Contains (links y) p) (sym same) l))) (g.only v h);
      })
    where
      ahead : LeadsTo links u x
      ahead = s.waiting x (Contains-push rest x)

      on : (p : A) → IsMet old (rest ++ x ∷ []) p → IsMet new (rest ++ links x) p
      on p m = met_on old new rest (links x) x p g m

  met : (s : A → Bool) (p : A) → IsMet s [] p → s p ≡ true
  met s p (inl found) = found
  met s p (inr due) = absurd (nowhere p due)

  along : (u : A) (s : A → Bool) → IsSearching links u s [] → {x v : A} → s x ≡ true → LeadsTo links x v → s v ≡ true
  along u s h found (one_link {u = x} {v = v} l) = met s v (h.closed x v found l)
  along u s h found (more_links {u = x} {p = p} l rest) = along u s h (met s p (h.closed x p found l)) rest

  reached : (u : A) (s : A → Bool) → IsSearching links u s [] → {v : A} → LeadsTo links u v → s v ≡ true
  reached u s h (one_link {v = v} l) = met s v (h.starts v l)
  reached u s h (more_links {p = p} l rest) = along u s h (met s p (h.starts p l)) rest

  -- nothing is left to be looked at
  pub search_end : (u : A) (s : A → Bool) → IsSearching links u s [] → IsClosure links u s
  search_end u s h v = (h.found v, λ b. reached u s h b)

-- ---- the search ends

module _ {A : Type 0} (links : A → List A) where
  -- how many links lead from those of the list that were not found
  unfoldable pub links_left : List A → (A → Bool) → ℕ
  links_left [] s = 0
  links_left (u ∷ us) s = cond (s u) 0 (length (links u)) + links_left us s

  fewer : (u : A) (old new : Bool) → (old ≡ true → new ≡ true) → cond new 0 (length (links u)) ≤ cond old 0 (length (links u))
  fewer u true true h = omega arith
  fewer u true false h = let e = h refl in cc
  fewer u false true h = omega arith
  fewer u false false h = omega arith

  links_left-le : (us : List A) (old new : A → Bool) (x : A) → Gains old new x → links_left us new ≤ links_left us old
  unfolding links_left
  links_left-le [] old new x g = omega arith
  links_left-le (u ∷ us) old new x g =
      let first = fewer u (old u) (new u) (g.kept u) in
      let rest = links_left-le us old new x g in
      omega arith

  -- the links of what is found are left no more
  links_left-gained : (us : List A) (old new : A → Bool) (x : A) → Gains old new x → old x ≡ false → Contains us x → links_left us new + length (links x) ≤ links_left us old
  unfolding links_left
  links_left-gained [] old new x g absent m = absurd (nowhere x m)
  links_left-gained (u ∷ us) old new x g absent m = elim (first_or_later u us x m) [
    | inl same ↦ (let now : new u ≡ true = subst (λ v. new v ≡ true) (sym same) g.gained in
        let was : old u ≡ false = subst (λ v. old v ≡ false) (sym same) absent in
        let long : length (links u) ≡ length (links x) = ap (λ v. length (links v)) same in
        let rest = links_left-le us old new x g in
        rw (now, was) (omega arith))
    | inr later ↦ (let first = fewer u (old u) (new u) (g.kept u) in
        let rest = links_left-gained us old new x g absent later in
        omega arith)
  ]

  without_links : (us : List A) (old new : A → Bool) (x : A) → Gains old new x → (ls : List A) → links x ≡ ls → old x ≡ false → ((v : A) → Contains (links x) v → Contains us x) → links_left us new + length ls ≤ links_left us old
  without_links us old new x g [] is absent listed = let less = links_left-le us old new x g in omega arith
  without_links us old new x g (l ∷ ls) is absent listed =
      let less = links_left-gained us old new x g absent (listed l (0, rw is (omega arith), rw is refl)) in
      let long = ap length is in
      omega arith

  -- one more is found, and its links in place of it leave less to do
  pub search_smaller : (us : List A) → AreListed links us → (old new : A → Bool) (before popped after : List (Bor A)) (b : Bor A) → Gains old new b.now → old b.now ≡ false → before ≡ popped ++ b ∷ [] → lent after ≡ lent popped ++ links b.now
      → links_left us new + length after < links_left us old + length before
  search_smaller us listed old new before popped after b g absent is more =
      let less = without_links us old new b.now g (links b.now) refl absent (λ v. listed b.now v) in
      let was : length before ≡ length popped + 1 = ap length is ∙ length-append popped (b ∷ []) in
      let now : length after ≡ length popped + length (links b.now) =
      sym (length-map after (λ (u : Bor A). u.now)) ∙ ap length more ∙ length-append (lent popped) (links b.now) ∙ ap (λ n. n + length (links b.now)) (length-map popped (λ (u : Bor A). u.now)) in
      omega arith

-- ---- what is lent

pub lent-push : {A : Type 0} (before popped : List (Bor A)) (b : Bor A) → before ≡ popped ++ b ∷ [] → lent before ≡ lent popped ++ b.now ∷ []
lent-push {A} before popped b is = ap lent is ∙ map-append (λ (u : Bor A). u.now) popped (b ∷ [])

pub none_lent : {A : Type 0} (us : List (Bor A)) → length us ≡ 0 → lent us ≡ []
none_lent [] h = refl
none_lent (b ∷ us) h = absurd (omega arith)

pub not_true : (b : Bool) → not b ≡ true → b ≡ false
not_true true h = cc
not_true false h = refl

pub not_false : (b : Bool) → not b ≡ false → b ≡ true
not_false true h = refl
not_false false h = cc
