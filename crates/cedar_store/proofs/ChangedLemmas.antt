-- The entities of a world after changes.
use Rattle.std.proofs.Common.{◌≡◌, ◌↔◌, Bool, true, false, not, cond, ◌||◌, ◌⊎◌, inl, inr, ⊎_elim, List, [], ◌∷◌, ◌++◌, filter, Contains, Option, Some, None, unwrap_or, refl, sym, ap, subst, ◌∙◌}
use Rattle.std.specs.List.{list_any}
use Rattle.std.specs.Option.{option_map}
use Rattle.std.specs.Prelude.{is_some}
use Rattle.base_reach.proofs.Listed.{here, there, first_or_later, left_of, right_of, is_false, or_left, or_right, any_found, any_at, filter-kept, from_filtered}
use Rattle.cedar_store.specs.Changes.{is_changed, changed}
use Rattle.cedar_value.specs.Datum.{same_uid}
use Rattle.cedar_value.specs.Private.Equality.{same_uid-Decides}
use Rattle.cedar_value.specs.World.{World, EntityTree, entry_of, parents_of, has_entity}
use Rattle.cedar_value.specs.declared.uid.Uid.{Uid}

-- ---- the entity with a uid

-- it is of the world, and has the uid
pub entry_in : (xs : World) (u : Uid) (e : EntityTree) → entry_of xs u ≡ Some e → Contains xs e × (e.uid ≡ u)
entry_in [] u e h = cc
entry_in (x ∷ xs) u e h = by (same_uid x.uid u) refl (entry_in xs u e) h
  where
    by : (b : Bool) → same_uid x.uid u ≡ b → (entry_of xs u ≡ Some e → Contains xs e × (e.uid ≡ u)) → cond b (Some x) (entry_of xs u) ≡ Some e → Contains (x ∷ xs) e × (e.uid ≡ u)
    by true t later k = let same : x ≡ e = cc in (subst (Contains (x ∷ xs)) same (here x xs), ap (λ (y : EntityTree). y.uid) (sym same) ∙ (same_uid-Decides x.uid u).0 t)
    by false t later k = let r = later k in (there x xs e r.0, r.1)

-- ---- two worlds, one after another

pub entry_first : (xs ys : World) (u : Uid) (e : EntityTree) → entry_of xs u ≡ Some e → entry_of (xs ++ ys) u ≡ Some e
entry_first [] ys u e h = cc
entry_first (x ∷ xs) ys u e h = by (same_uid x.uid u) (entry_first xs ys u e) h
  where
    by : (b : Bool) → (entry_of xs u ≡ Some e → entry_of (xs ++ ys) u ≡ Some e) → cond b (Some x) (entry_of xs u) ≡ Some e → cond b (Some x) (entry_of (xs ++ ys) u) ≡ Some e
    by true later k = k
    by false later k = later k

pub entry_second : (xs ys : World) (u : Uid) → entry_of xs u ≡ None → entry_of (xs ++ ys) u ≡ entry_of ys u
entry_second [] ys u h = refl
entry_second (x ∷ xs) ys u h = by (same_uid x.uid u) (entry_second xs ys u) h
  where
    by : (b : Bool) → (entry_of xs u ≡ None → entry_of (xs ++ ys) u ≡ entry_of ys u) → cond b (Some x) (entry_of xs u) ≡ None → cond b (Some x) (entry_of (xs ++ ys) u) ≡ entry_of ys u
    by true later k = cc
    by false later k = later k

-- where the second world has none, it is that of the first
pub entry_alone : (xs ys : World) (u : Uid) → entry_of ys u ≡ None → entry_of (xs ++ ys) u ≡ entry_of xs u
entry_alone [] ys u h = h
entry_alone (x ∷ xs) ys u h = ap (λ o. cond (same_uid x.uid u) (Some x) o) (entry_alone xs ys u h)

-- ---- a world without some of its entities

-- where each entity with the uid goes, none is left
pub entry_gone : (f : EntityTree → Bool) (u : Uid) → ((e : EntityTree) → e.uid ≡ u → f e ≡ false) → (w : World) → entry_of (filter f w) u ≡ None
entry_gone f u goes [] = refl
entry_gone f u goes (x ∷ xs) = by (f x) (same_uid x.uid u) refl (λ t. goes x ((same_uid-Decides x.uid u).0 t)) (entry_gone f u goes xs)
  where
    by : (b t : Bool) → same_uid x.uid u ≡ t → (t ≡ true → b ≡ false) → entry_of (filter f xs) u ≡ None → entry_of (cond b (x ∷ filter f xs) (filter f xs)) u ≡ None
    by false t same gone later = later
    by true true same gone later = let no_more : true ≡ false = gone refl in cc
    by true false same gone later = rw same later

-- where each stays, the entity is as before
pub entry_stays : (f : EntityTree → Bool) (u : Uid) → ((e : EntityTree) → e.uid ≡ u → f e ≡ true) → (w : World) → entry_of (filter f w) u ≡ entry_of w u
entry_stays f u stays [] = refl
entry_stays f u stays (x ∷ xs) = by (f x) (same_uid x.uid u) refl (λ t. stays x ((same_uid-Decides x.uid u).0 t)) (entry_stays f u stays xs)
  where
    by : (b t : Bool) → same_uid x.uid u ≡ t → (t ≡ true → b ≡ true) → entry_of (filter f xs) u ≡ entry_of xs u → entry_of (cond b (x ∷ filter f xs) (filter f xs)) u ≡ cond t (Some x) (entry_of xs u)
    by true t same kept later = rw same (ap (λ o. cond t (Some x) o) later)
    by false true same kept later = let no_more : false ≡ true = kept refl in cc
    by false false same kept later = later

-- ---- which uids changes name

pub is_removed : (removed : List Uid) (u : Uid) → (list_any (same_uid u) removed ≡ true) ↔ Contains removed u
is_removed removed u = (
  λ t. (let found = any_found (same_uid u) removed t in subst (Contains removed) (sym ((same_uid-Decides u found.0).0 found.2)) found.1),
  λ m. any_at (same_uid u) removed u m ((same_uid-Decides u u).1 refl),
)

pub is_changed-removed : (removed : List Uid) (upserted : World) (u : Uid) → Contains removed u → is_changed removed upserted u ≡ true
is_changed-removed removed upserted u m = or_left (list_any (same_uid u) removed) (has_entity upserted u) ((is_removed removed u).1 m)

pub is_changed-upserted : (removed : List Uid) (upserted : World) (u : Uid) (e : EntityTree) → entry_of upserted u ≡ Some e → is_changed removed upserted u ≡ true
is_changed-upserted removed upserted u e h = or_right (list_any (same_uid u) removed) (has_entity upserted u) (ap is_some h)

neither_true : (a b : Bool) → a ≡ false → b ≡ false → (a || b) ≡ false
neither_true true b x y = cc
neither_true false b x y = y

pub is_changed-not : (removed : List Uid) (upserted : World) (u : Uid) → ¬ Contains removed u → entry_of upserted u ≡ None → is_changed removed upserted u ≡ false
is_changed-not removed upserted u stays none =
    neither_true (list_any (same_uid u) removed) (has_entity upserted u) (is_false (list_any (same_uid u) removed) (λ t. stays ((is_removed removed u).0 t))) (ap is_some none)

second_false : (a b : Bool) → (a || b) ≡ false → b ≡ false
second_false true b h = cc
second_false false b h = h

none_of : (o : Option EntityTree) → is_some o ≡ false → o ≡ None
none_of None h = refl
none_of (Some e) h = cc

pub not_upserted : (removed : List Uid) (upserted : World) (u : Uid) → is_changed removed upserted u ≡ false → entry_of upserted u ≡ None
not_upserted removed upserted u h = none_of (entry_of upserted u) (second_false (list_any (same_uid u) removed) (has_entity upserted u) h)

-- ---- the entity with a uid, and its parents, after changes

module _ (w : World) (removed : List Uid) (upserted : World) (u : Uid) where
  abbrev stays : EntityTree → Bool
  stays e = not (is_changed removed upserted e.uid)

  -- what changes do not name is as before
  pub entry_unnamed : is_changed removed upserted u ≡ false → entry_of (changed w removed upserted) u ≡ entry_of w u
  entry_unnamed h =
      entry_alone (filter stays w) upserted u (not_upserted removed upserted u h) ∙ entry_stays stays u (λ e same. ap (λ (v : Uid). not (is_changed removed upserted v)) same ∙ ap not h) w

  -- of what they name there is what is upserted
  pub entry_named : is_changed removed upserted u ≡ true → entry_of (changed w removed upserted) u ≡ entry_of upserted u
  entry_named h = entry_second (filter stays w) upserted u (entry_gone stays u (λ e same. ap (λ (v : Uid). not (is_changed removed upserted v)) same ∙ ap not h) w)

  pub entry_upserted : (e : EntityTree) → entry_of upserted u ≡ Some e → entry_of (changed w removed upserted) u ≡ Some e
  entry_upserted e h = entry_named (is_changed-upserted removed upserted u e h) ∙ h

  -- of what is only removed there is none
  pub entry_removed : Contains removed u → entry_of upserted u ≡ None → entry_of (changed w removed upserted) u ≡ None
  entry_removed m h = entry_named (is_changed-removed removed upserted u m) ∙ h

  abbrev parents_in : Option EntityTree → List Uid
  parents_in o = unwrap_or (option_map (λ (e : EntityTree). e.parents) o) []

  pub parents_unnamed : is_changed removed upserted u ≡ false → parents_of (changed w removed upserted) u ≡ parents_of w u
  parents_unnamed h = ap parents_in (entry_unnamed h)

  pub parents_named : is_changed removed upserted u ≡ true → parents_of (changed w removed upserted) u ≡ parents_of upserted u
  parents_named h = ap parents_in (entry_named h)

  pub parents_upserted : (e : EntityTree) → entry_of upserted u ≡ Some e → parents_of (changed w removed upserted) u ≡ e.parents
  parents_upserted e h = ap parents_in (entry_upserted e h)

  pub parents_removed : Contains removed u → entry_of upserted u ≡ None → parents_of (changed w removed upserted) u ≡ []
  parents_removed m h = ap parents_in (entry_removed m h)

-- ---- which entities there are after changes

contains_either : (xs ys : World) (e : EntityTree) → Contains (xs ++ ys) e → Contains xs e ⊎ Contains ys e
contains_either [] ys e m = inr m
contains_either (x ∷ xs) ys e m = ⊎_elim (λ same. inl (subst (Contains (x ∷ xs)) same (here x xs))) (λ r. ⊎_elim (λ l. inl (there x xs e l)) (λ q. inr q) (contains_either xs ys e r)) (first_or_later x (xs ++ ys) e m)

not_true : (b : Bool) → not b ≡ true → b ≡ false
not_true true h = cc
not_true false h = refl

pub changed_entity : (w : World) (removed : List Uid) (upserted : World) (e : EntityTree) → Contains (changed w removed upserted) e → (Contains w e × (is_changed removed upserted e.uid ≡ false)) ⊎ Contains upserted e
changed_entity w removed upserted e m =
    ⊎_elim (λ l. (let kept = from_filtered (λ (x : EntityTree). not (is_changed removed upserted x.uid)) w e l in inl (kept.0, not_true (is_changed removed upserted e.uid) kept.1))) (λ r. inr r) (contains_either (filter (λ (x : EntityTree). not (is_changed removed upserted x.uid)) w) upserted e m)

pub contains_unnamed : (w : World) (removed : List Uid) (upserted : World) (e : EntityTree) → Contains w e → is_changed removed upserted e.uid ≡ false → Contains (changed w removed upserted) e
contains_unnamed w removed upserted e m h =
    left_of (filter (λ (x : EntityTree). not (is_changed removed upserted x.uid)) w) upserted e (filter-kept (λ (x : EntityTree). not (is_changed removed upserted x.uid)) w e m (ap not h))

pub contains_upserted : (w : World) (removed : List Uid) (upserted : World) (e : EntityTree) → Contains upserted e → Contains (changed w removed upserted) e
contains_upserted w removed upserted e m = right_of (filter (λ (x : EntityTree). not (is_changed removed upserted x.uid)) w) upserted e m
