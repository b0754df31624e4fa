-- What the list of changes says of a uid.
--     removed_told      whether it is removed
--     upserted_told, upserted_there      the entity that is upserted, and whether one is
--     changed_told      whether changes name it
use Rattle.std.proofs.Common.{◌≡◌, Bool, true, false, ◌||◌, List, [], ◌∷◌, Option, Some, None, is_none, is_some, refl, ap, subst, ◌∙◌, if◌then◌else◌}
use Rattle.std.specs.List.{list_any}
use Rattle.cedar_value.specs.Datum.{same_uid}
use Rattle.cedar_value.specs.Private.Equality.{same_uid-Decides, uid_equivalence}
use Rattle.cedar_value.specs.World.{EntityTree, entry_of, has_entity}
use Rattle.cedar_value.specs.declared.uid.Uid.{Uid}
use Rattle.cedar_store.specs.Changes.{is_changed}
use Rattle.cedar_store.specs.Private.Changing.{ChangeTree, IsChangeOfUid, IsOfUid, EachChange, change_of, AreChangesDistinct, removed_by, removed_of, upserted_by, upserted_of, upsert_in, is_removal}

-- there is no change of the uid among the later ones, where the first is one
none_later : (c : ChangeTree) (cs : List ChangeTree) (u : Uid) → same_uid c.uid u ≡ true → change_of cs c.uid ≡ None → change_of cs u ≡ None
none_later c cs u same none = subst (λ v. change_of cs v ≡ None) ((same_uid-Decides c.uid u).0 same) none

removed_case : (c : ChangeTree) (cs : List ChangeTree) (u : Uid) (o : Option EntityTree) (b : Bool) → c.entity ≡ o → same_uid c.uid u ≡ b → change_of cs c.uid ≡ None → list_any (same_uid u) (removed_of cs) ≡ is_removal (change_of cs u)
    → list_any (same_uid u) (removed_by c.uid c.entity (removed_of cs)) ≡ is_removal (if same_uid c.uid u then Some c else change_of cs u)
removed_case c cs u None true is same none told = let back = uid_equivalence.symm c.uid u in rw (is, ← back, same) refl
removed_case c cs u None false is same none told = let back = uid_equivalence.symm c.uid u in rw (is, ← back, same) told
removed_case c cs u (Some e) true is same none told = let later = none_later c cs u same none in rw (is, same) (told ∙ ap is_removal later)
removed_case c cs u (Some e) false is same none told = rw (is, same) told

pub removed_told : (cs : List ChangeTree) (u : Uid) → AreChangesDistinct cs → list_any (same_uid u) (removed_of cs) ≡ is_removal (change_of cs u)
removed_told [] u distinct = refl
removed_told (c ∷ cs) u distinct = removed_case c cs u c.entity (same_uid c.uid u) refl refl distinct.0 (removed_told cs u distinct.1)

upserted_case : (c : ChangeTree) (cs : List ChangeTree) (u : Uid) (o : Option EntityTree) (b : Bool) → c.entity ≡ o → IsOfUid c.uid o → same_uid c.uid u ≡ b → change_of cs c.uid ≡ None → entry_of (upserted_of cs) u ≡ upsert_in (change_of cs u)
    → entry_of (upserted_by c.entity (upserted_of cs)) u ≡ upsert_in (if same_uid c.uid u then Some c else change_of cs u)
upserted_case c cs u None true is named same none told = let later = none_later c cs u same none in rw (is, same) (told ∙ ap upsert_in later)
upserted_case c cs u None false is named same none told = rw (is, same) told
upserted_case c cs u (Some e) true is named same none told = rw (is, named, same) refl
upserted_case c cs u (Some e) false is named same none told = rw (is, named, same) told

pub upserted_told : (cs : List ChangeTree) (u : Uid) → AreChangesDistinct cs → EachChange IsChangeOfUid cs → entry_of (upserted_of cs) u ≡ upsert_in (change_of cs u)
upserted_told [] u distinct named = refl
upserted_told (c ∷ cs) u distinct named = upserted_case c cs u c.entity (same_uid c.uid u) refl named.0 refl distinct.0 (upserted_told cs u distinct.1 named.1)

pub upserted_there : (cs : List ChangeTree) (u : Uid) → AreChangesDistinct cs → EachChange IsChangeOfUid cs → has_entity (upserted_of cs) u ≡ is_some (upsert_in (change_of cs u))
upserted_there cs u distinct named = ap is_some (upserted_told cs u distinct named)

some_change : (found : Option ChangeTree) → (is_removal found || is_some (upsert_in found)) ≡ is_some found
some_change None = refl
some_change (Some c) = entity_or_none c.entity
  where
    entity_or_none : (o : Option EntityTree) → (is_none o || is_some o) ≡ true
    entity_or_none None = refl
    entity_or_none (Some e) = refl

pub changed_told : (cs : List ChangeTree) (u : Uid) → AreChangesDistinct cs → EachChange IsChangeOfUid cs → is_changed (removed_of cs) (upserted_of cs) u ≡ is_some (change_of cs u)
changed_told cs u distinct named = rw (removed_told cs u distinct, upserted_there cs u distinct named) (some_change (change_of cs u))
