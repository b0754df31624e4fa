-- What changes show of a uid after removals, and after upserts.
--     removed_seen, absent_seen      after one removal, of an entity that is there and of one that is not
--     removals_more, upserts_more      after one removal more, and after one upsert more
--     after_call      after both
use Rattle.std.proofs.Common.{◌≡◌, ℕ, ◌+◌, ◌<◌, List, [], ◌∷◌, ◌++◌, length, get_or, take, Bool, true, false, cond, ◌||◌, Option, Some, None, is_some, refl, sym, ap, subst, ◌∙◌}
use Rattle.std.specs.List.{list_any}
use Rattle.std.proofs.lemmas.List.{take_more}
use Rattle.cedar_value.specs.Datum.{same_uid}
use Rattle.cedar_value.specs.Private.Equality.{same_uid-Decides, uid_equivalence}
use Rattle.cedar_value.specs.World.{EntityTree, World, entry_of}
use Rattle.cedar_value.specs.declared.uid.Uid.{Uid}
use Rattle.cedar_store.specs.Private.Called.{IsAfterCall, after_removals, after_upsert, removal}
use Rattle.cedar_store.specs.Private.Changing.{ChangeTree, Seen, change_of, only, seen, told_entry, upsert_in}

-- ---- removals

any_push : {A : Type 0} (f : A → Bool) (xs : List A) (y : A) → list_any f (xs ++ y ∷ []) ≡ (list_any f xs || f y)
any_push f [] y = or_false (f y)
  where
    or_false : (b : Bool) → (b || false) ≡ b
    or_false true = refl
    or_false false = refl
any_push f (x ∷ xs) y = by (f x) (any_push f xs y)
  where
    by : (b : Bool) → list_any f (xs ++ y ∷ []) ≡ (list_any f xs || f y) → (b || list_any f (xs ++ y ∷ [])) ≡ ((b || list_any f xs) || f y)
    by true rest = refl
    by false rest = rest

-- what a change of a uid, if there is one, shows
abbrev show : Option ChangeTree → Option EntityTree → Seen
show o e = record { entry = told_entry o e; upsert = upsert_in o }

removed_seen-case : (b : Bool) (q : Uid) (n m : Option ChangeTree) (e : Option EntityTree) → n ≡ cond b (Some (removal q)) m → show n e ≡ cond b (only None) (show m e)
removed_seen-case true q n m e is = ap (λ o. show o e) is
removed_seen-case false q n m e is = ap (λ o. show o e) is

pub removed_seen : (w : World) (old new : List ChangeTree) (q r : Uid) → q ≡ r → ((u : Uid) → change_of new u ≡ cond (same_uid q u) (Some (removal q)) (change_of old u)) → (u : Uid) → seen w new u ≡ cond (same_uid r u) (only None) (seen w old u)
removed_seen w old new q r copy is u = subst (λ x. seen w new u ≡ cond (same_uid x u) (only None) (seen w old u)) copy (removed_seen-case (same_uid q u) q (change_of new u) (change_of old u) (entry_of w u) (is u))

absent_here : (o : Option ChangeTree) (e : Option EntityTree) → is_some (told_entry o e) ≡ false → show o e ≡ only None
absent_here None None none = refl
absent_here None (Some e) none = cc
absent_here (Some c) e none = by c.entity none
  where
    by : (x : Option EntityTree) → is_some x ≡ false → only x ≡ only None
    by None h = refl
    by (Some y) h = cc

pub absent_seen : (w : World) (cs : List ChangeTree) (r : Uid) → is_some (told_entry (change_of cs r) (entry_of w r)) ≡ false → (u : Uid) → seen w cs u ≡ cond (same_uid r u) (only None) (seen w cs u)
absent_seen w cs r none u = by (same_uid r u) refl
  where
    by : (b : Bool) → same_uid r u ≡ b → seen w cs u ≡ cond b (only None) (seen w cs u)
    by true same = subst (λ x. seen w cs x ≡ only None) ((same_uid-Decides r u).0 same) (absent_here (change_of cs r) (entry_of w r) none)
    by false same = refl

removal_case : (t b : Bool) (n m old : Seen) → n ≡ cond b (only None) m → m ≡ cond t (only None) old → n ≡ cond (t || b) (only None) old
removal_case true true n m old new before = new
removal_case false true n m old new before = new
removal_case true false n m old new before = new ∙ before
removal_case false false n m old new before = new ∙ before

pub removals_more : (us : List Uid) (i : ℕ) (r : Uid) (m n old : Uid → Seen) → i < length us → r ≡ get_or us i r → ((u : Uid) → m u ≡ after_removals (take i us) old u)
    → ((u : Uid) → n u ≡ cond (same_uid r u) (only None) (m u)) → (u : Uid) → n u ≡ after_removals (take (i + 1) us) old u
removals_more us i r m n old within is before new u =
    let more : take (i + 1) us ≡ take i us ++ r ∷ [] = take_more us i r within ∙ ap (λ v. take i us ++ v ∷ []) (sym is) in
    let any : list_any (same_uid u) (take (i + 1) us) ≡ (list_any (same_uid u) (take i us) || same_uid r u) = ap (list_any (same_uid u)) more ∙ any_push (same_uid u) (take i us) r ∙ ap (λ b. list_any (same_uid u) (take i us) || b) (uid_equivalence.symm u r) in
    removal_case (list_any (same_uid u) (take i us)) (same_uid r u) (n u) (m u) (old u) (new u) (before u) ∙ ap (λ b. cond b (only None) (old u)) (sym any)

-- ---- upserts

abbrev upsert : Uid → EntityTree → ChangeTree
upsert q e = record { uid = q; entity = Some e }

upsert_case : (b : Bool) (u : Uid) (e : EntityTree) (o : Option EntityTree) (n m old : Option ChangeTree) → same_uid e.uid u ≡ b → n ≡ cond b (Some (upsert e.uid e)) m → m ≡ after_upsert u o old → n ≡ after_upsert u (cond b (Some e) o) old
upsert_case true u e o n m old same new before = new ∙ ap (λ x. Some (upsert x e)) ((same_uid-Decides e.uid u).0 same)
upsert_case false u e o n m old same new before = new ∙ before

pub upserts_more : (w : World) (e : EntityTree) (q : Uid) (m n : List ChangeTree) (old : Uid → Option ChangeTree) → q ≡ e.uid → ((u : Uid) → change_of m u ≡ after_upsert u (entry_of w u) (old u))
    → ((u : Uid) → change_of n u ≡ cond (same_uid q u) (Some (upsert q e)) (change_of m u)) → (u : Uid) → change_of n u ≡ after_upsert u (entry_of (e ∷ w) u) (old u)
upserts_more w e q m n old copy before new u =
    upsert_case (same_uid e.uid u) u e (entry_of w u) (change_of n u) (change_of m u) (old u) refl (subst (λ x. change_of n u ≡ cond (same_uid x u) (Some (upsert x e)) (change_of m u)) copy (new u)) (before u)

-- ---- both

told_kept : (t : Bool) (o : Option EntityTree) (u : Uid) (n m : Option ChangeTree) (e : Option EntityTree) (old : Seen) → n ≡ after_upsert u o m → show m e ≡ cond t (only None) old → (t || is_some o) ≡ false → show n e ≡ old
told_kept true o u n m e old new before none = cc
told_kept false None u n m e old new before none = ap (λ x. show x e) new ∙ before
told_kept false (Some y) u n m e old new before none = cc

told_named : (t : Bool) (o : Option EntityTree) (u : Uid) (n m : Option ChangeTree) (e : Option EntityTree) (old : Seen) → n ≡ after_upsert u o m → show m e ≡ cond t (only None) old → (t || is_some o) ≡ true → show n e ≡ only o
told_named true None u n m e old new before there = ap (λ x. show x e) new ∙ before
told_named false None u n m e old new before there = cc
told_named t (Some y) u n m e old new before there = ap (λ x. show x e) new

pub after_call : (w : World) (old mid new : List ChangeTree) (removed : List Uid) (upserted : World) → ((u : Uid) → seen w mid u ≡ after_removals removed (seen w old) u) → ((u : Uid) → change_of new u ≡ after_upsert u (entry_of upserted u) (change_of mid u)) → IsAfterCall w old removed upserted new
after_call w old mid new removed upserted gone there = record {
  kept = λ u is. told_kept (list_any (same_uid u) removed) (entry_of upserted u) u (change_of new u) (change_of mid u) (entry_of w u) (seen w old u) (there u) (gone u) is;
  named = λ u is. told_named (list_any (same_uid u) removed) (entry_of upserted u) u (change_of new u) (change_of mid u) (entry_of w u) (seen w old u) (there u) (gone u) is;
}
