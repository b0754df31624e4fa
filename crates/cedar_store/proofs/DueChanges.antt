-- The parents of what changes upsert, in a list.
use Rattle.std.proofs.Common.{◌≡◌, Bool, true, false, cond, List, [], ◌∷◌, ◌++◌, map, Option, None, Some, Result, Ok, Err, OnOk, refl, subst, Contains}
use Rattle.std.proofs.lemmas.Option.{same_Some}
use Rattle.cedar_value.specs.Datum.{same_uid}
use Rattle.cedar_value.specs.World.{EntityTree}
use Rattle.cedar_value.specs.declared.uid.Uid.{Uid}
use Rattle.cedar_store.specs.Private.Based.{BaseTree}
use Rattle.cedar_store.specs.Private.Branches.{EachKeyed, Keyed}
use Rattle.cedar_store.specs.Private.Changing.{ChangeTree, EachChange, change_of, upsert_in}
use Rattle.cedar_store.specs.Private.Overlaid.{IsNumbered}
use Rattle.cedar_store.specs.Private.Parts.{HasParentsDue}

at_change : (P : ChangeTree → Type 0) (cs : List ChangeTree) (u : Uid) (c : ChangeTree) → EachChange P cs → change_of cs u ≡ Some c → P c
at_change P [] u c each at = cc
at_change P (d ∷ cs) u c each at = by (same_uid d.uid u) (at_change P cs u c each.1) at
  where
    by : (b : Bool) → (change_of cs u ≡ Some c → P c) → cond b (Some d) (change_of cs u) ≡ Some c → P c
    by true rest is = subst P (same_Some d c is) each.0
    by false rest is = rest is

pub known_due : (b : BaseTree) (cs : List ChangeTree) (due : List Uid) → EachChange (HasParentsDue b due) cs → (u p : Uid) (e : EntityTree) → upsert_in (change_of cs u) ≡ Some e → Contains e.parents p → ¬ IsNumbered b p → Contains due p
known_due b cs due each u p e entity m none = by (change_of cs u) refl entity
  where
    by : (o : Option ChangeTree) → change_of cs u ≡ o → upsert_in o ≡ Some e → Contains due p
    by None is t = cc
    by (Some c) is t = at_change (HasParentsDue b due) cs u c each is e t p m none

pub each_joined : (P : Keyed → Type 0) (l r : List Keyed) (k : Keyed) → EachKeyed P l → P k → EachKeyed P r → EachKeyed P (l ++ k ∷ r)
each_joined P [] r k left one right = (one, right)
each_joined P (x ∷ l) r k left one right = (left.0, each_joined P l r k left.1 one right)

pub each_still : (b : BaseTree) (old new : List Uid) → ((p : Uid) → Contains old p → Contains new p) → (ks : List Keyed) → EachKeyed (λ k. HasParentsDue b old k.change) ks → EachKeyed (λ k. HasParentsDue b new k.change) ks
each_still b old new keeps [] each = each
each_still b old new keeps (k ∷ ks) each = (λ e is p m none. keeps p (each.0 e is p m none), each_still b old new keeps ks each.1)

pub each_change : (P : ChangeTree → Type 0) (ks : List Keyed) → EachKeyed (λ k. P k.change) ks → EachChange P (map (λ (k : Keyed). k.change) ks)
each_change P [] each = each
each_change P (k ∷ ks) each = (each.0, each_change P ks each.1)

pub joined_due : (b : BaseTree) (one two three : List Uid) (l r : List Keyed) (k : Keyed) → ((p : Uid) → Contains one p → Contains two p) → ((p : Uid) → Contains two p → Contains three p)
    → EachKeyed (λ x. HasParentsDue b one x.change) l → HasParentsDue b two k.change → EachKeyed (λ x. HasParentsDue b three x.change) r → EachKeyed (λ x. HasParentsDue b three x.change) (l ++ k ∷ r)
joined_due b one two three l r k more most left here right =
    each_joined (λ x. HasParentsDue b three x.change) l r k (each_still b one three (λ p m. most p (more p m)) l left) (λ e is p m none. most p (here e is p m none)) right

pub on_ok_both : {T E A B C : Type 0} (r : Result T E) → (A → B → C) → OnOk r A → OnOk r B → OnOk r C
on_ok_both (Ok x) f a b = f a b
on_ok_both (Err y) f a b = a
