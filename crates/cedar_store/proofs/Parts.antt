-- The part of a world above some uids.
--     part_settled, part_has      what it has, and what that is below
--     part_fault      its faults are those of the world
--     IsGrown      the part as far as it is made
use Rattle.std.proofs.Common.{◌≡◌, ◌⊎◌, ℕ, ◌+◌, ◌<◌, ◌≤◌, inl, inr, ⊎_elim, Bool, true, false, cond, List, [], ◌∷◌, ◌++◌, length, append-nil, append_assoc, get_or, take, Option, None, Some, is_some, arith, refl, sym, ap, subst, ◌∙◌, Contains}
use Rattle.std.specs.List.{IsDistinct}
use Rattle.std.specs.List.{list_any, slice_get}
use Rattle.std.proofs.lemmas.List.{length-append, map-append, take-append-le, take_all, take_more}
use Rattle.std.proofs.lemmas.List.Elements.{Contains-push_cases}
use Rattle.std.proofs.lemmas.Map.Made.{AllPairs-from_IsDistinct}
use Rattle.std.proofs.lemmas.Option.{same_Some, slice_get-get_or}
use Rattle.base_reach.specs.Closure.{one_link, more_links}
use Rattle.base_reach.proofs.Chains.{first_link}
use Rattle.base_reach.proofs.Listed.{any_found, first_or_later, here, left_of, nowhere, right_of}
use Rattle.cedar_value.proofs.Reach.{parents-listed}
use Rattle.cedar_value.specs.Datum.{same_uid}
use Rattle.cedar_value.specs.Private.Equality.{same_uid-Decides}
use Rattle.cedar_value.specs.World.{EntityTree, World, Below, entry_of, parents_of}
use Rattle.cedar_value.specs.declared.uid.Uid.{Uid}
use Rattle.cedar_store.specs.Entities.{uids_of}
use Rattle.cedar_store.specs.Faults.{IsThere}
use Rattle.cedar_store.specs.Private.Called.{IsCycleThere}
use Rattle.cedar_store.specs.Private.Overlaid.{AreSettled, IsSettled}
use Rattle.cedar_store.specs.Private.Parts.{GainsUids, IsPartAbove}
use Rattle.cedar_store.specs.declared.store_fault.StoreFault.{StoreFault}
use Rattle.cedar_store.specs.declared.store_fault.StoreFault.TheVariants.{OutOfMemory, DuplicateEntity, Cycle}
use Rattle.cedar_store.proofs.ChangedLemmas.{entry_in}
use Rattle.cedar_store.proofs.EachMore.{Each, each_more}
use Rattle.cedar_store.proofs.MarkedToo.{listed_uid}
use Rattle.cedar_store.proofs.Overlaid.{parents_in}
use Rattle.cedar_store.proofs.Places.{within_list}

-- ---- what is listed has an entity

has_listed : (w : World) (u : Uid) → Contains (uids_of w) u → IsSettled w u
has_listed [] u m = absurd (nowhere u m)
has_listed (e ∷ w) u m = by (same_uid e.uid u) refl (first_or_later e.uid (uids_of w) u m) (has_listed w u)
  where
    by : (b : Bool) → same_uid e.uid u ≡ b → (e.uid ≡ u) ⊎ Contains (uids_of w) u → (Contains (uids_of w) u → IsSettled w u) → is_some (cond b (Some e) (entry_of w u)) ≡ true
    by true is h rest = refl
    by false is (inl first) rest = absurd (let same : true ≡ false = sym ((same_uid-Decides e.uid u).1 first) ∙ is in cc)
    by false is (inr later) rest = rest later

listed_has : (w : World) (u : Uid) → IsSettled w u → Contains (uids_of w) u
listed_has w u there = by (entry_of w u) refl there
  where
    by : (o : Option EntityTree) → entry_of w u ≡ o → is_some o ≡ true → Contains (uids_of w) u
    by None is t = cc
    by (Some e) is t = listed_uid w u e is

-- ---- what the part says

module _ (w : World) (due : List Uid) (part : World) (is : IsPartAbove w due part) where
  up : {u v : Uid} → Below part u v → Contains (uids_of part) u → Below w u v
  up (one_link {u = u} {v = v} l) m = one_link (subst (λ ps. Contains ps v) (is.same u m) l)
  up (more_links {u = u} {p = p} l rest) m = let link = subst (λ ps. Contains ps p) (is.same u m) l in more_links link (up rest (is.closed u p m link))

  down : {u v : Uid} → Below w u v → Contains (uids_of part) u → Below part u v
  down (one_link {u = u} {v = v} l) m = one_link (subst (λ ps. Contains ps v) (sym (is.same u m)) l)
  down (more_links {u = u} {p = p} l rest) m = more_links (subst (λ ps. Contains ps p) (sym (is.same u m)) l) (down rest (is.closed u p m l))

  pub part_settled : AreSettled w part
  part_settled u v there = let m = listed_has part u there in (λ chain. up chain m, λ chain. down chain m)

  pub part_has : (u : Uid) → Contains due u → IsSettled part u
  part_has u m = has_listed part u (is.all u m)

  pub part_fault : (f : StoreFault) → IsThere part f → IsCycleThere w f
  part_fault OutOfMemory there = there
  part_fault (DuplicateEntity u) there = absurd (is.distinct u there)
  part_fault (Cycle u) there = let first = first_link there in up there (parents-listed part u first.0 first.1)

-- ---- the part as far as it is made

pub gains_before : (old uids new : List Uid) → GainsUids old uids new → (u : Uid) → Contains old u → Contains new u
gains_before old uids new gains u m = subst (λ us. Contains us u) (sym gains.appended) (left_of old gains.more u m)

pub gains_nothing : (us : List Uid) (uids : List Uid) → ((u : Uid) → Contains uids u → Contains us u) → GainsUids us uids us
gains_nothing us uids there = record { more = []; appended = sym (append-nil us); gained = there }

pub gains_one : (old new : List Uid) (u : Uid) → new ≡ old ++ u ∷ [] → GainsUids old (u ∷ []) new
gains_one old new u is = record { more = u ∷ []; appended = is; gained = λ x m. subst (λ us. Contains us x) (sym is) (right_of old (u ∷ []) x m) }

pub gains_had : (us : List Uid) (u : Uid) → list_any (same_uid u) us ≡ true → GainsUids us (u ∷ []) us
gains_had us u there = let found = any_found (same_uid u) us there in let same : u ≡ found.0 = (same_uid-Decides u found.0).0 found.2 in gains_nothing us (u ∷ []) (λ x m. ⊎_elim (λ is. subst (Contains us) (sym same ∙ is) found.1) (λ later. absurd (nowhere x later)) (first_or_later u [] x m))

-- the uid of one more is there, too
pub gains_more : (old mid new us : List Uid) (i : ℕ) (u : Uid) → i < length us → u ≡ get_or us i u → GainsUids old (take i us) mid → GainsUids mid (u ∷ []) new → GainsUids old (take (i + 1) us) new
gains_more old mid new us i u within is before now = record {
  more = before.more ++ now.more;
  appended = now.appended ∙ ap (λ xs. xs ++ now.more) before.appended ∙ append_assoc old before.more now.more;
  gained = each_more (Contains new) us i u within is (λ x m. gains_before mid (u ∷ []) new now x (before.gained x m)) (now.gained u (here u []));
}

pub record IsGrown (w : World) (due keys : List Uid) (part : World) (place : ℕ) : Type 0 where
  pub uids : uids_of part ≡ take place keys
  pub within : place ≤ length keys
  pub same : Each (λ (e : EntityTree). e.parents ≡ parents_of w e.uid) part
  pub closed : Each (λ (e : EntityTree). Each (Contains keys) e.parents) part
  pub all : (u : Uid) → Contains due u → Contains keys u

pub grown_start : (w : World) (due keys : List Uid) → ((u : Uid) → Contains due u → Contains keys u) → IsGrown w due keys [] 0
grown_start w due keys there = record {
  uids = refl;
  within = omega arith;
  same = λ e m. absurd (nowhere e m);
  closed = λ e m. absurd (nowhere e m);
  all = there;
}

each_push : (P : EntityTree → Type 0) (part new : World) (e : EntityTree) → new ≡ part ++ e ∷ [] → Each P part → P e → Each P new
each_push P part new e is each one x m = elim (Contains-push_cases part e x (subst (λ es. Contains es x) is m)) [
  | inl before ↦ each x before
  | inr now ↦ subst P now one
]

module _ (w : World) (due keys new : List Uid) (part part_new : World) (place : ℕ) (e : EntityTree) (u : Uid) (within : place < length keys) (is : u ≡ get_or keys place u) (named : e.uid ≡ u) (parents : e.parents ≡ parents_of w u)
    (pushed : part_new ≡ part ++ e ∷ []) (gains : GainsUids keys (parents_of w u) new) (grown : IsGrown w due keys part place) where
  uids_more : uids_of part_new ≡ take (place + 1) new
  uids_more =
      ap uids_of pushed ∙ map-append (λ (x : EntityTree). x.uid) part (e ∷ []) ∙ ap (λ us. us ++ e.uid ∷ []) grown.uids ∙ ap (λ x. take place keys ++ x ∷ []) (named ∙ is)
      ∙ sym (take_more keys place u within) ∙ sym (ap (take (place + 1)) gains.appended ∙ take-append-le (place + 1) keys gains.more (omega arith))

  long_more : place + 1 ≤ length new
  long_more = let long : length new ≡ length keys + length gains.more = ap length gains.appended ∙ length-append keys gains.more in omega arith

  pub grown_more : IsGrown w due new part_new (place + 1)
  grown_more = record {
    uids = uids_more;
    within = long_more;
    same = each_push (λ (x : EntityTree). x.parents ≡ parents_of w x.uid) part part_new e pushed grown.same (parents ∙ ap (parents_of w) (sym named));
    closed = each_push (λ (x : EntityTree). Each (Contains new) x.parents) part part_new e pushed (λ x m p l. gains_before keys (parents_of w u) new gains p (grown.closed x m p l)) (λ p l. gains.gained p (subst (λ ps. Contains ps p) parents l));
    all = λ x m. gains_before keys (parents_of w u) new gains x (grown.all x m);
  }

module _ (w : World) (due keys : List Uid) (part : World) (place : ℕ) (grown : IsGrown w due keys part place) (past : length keys ≤ place) (once : IsDistinct same_uid keys) where
  whole : uids_of part ≡ keys
  whole = grown.uids ∙ take_all place keys past

  at : (u : Uid) (k : ℕ) → slice_get (uids_of part) k ≡ Some u → (k < length keys) × (get_or keys k u ≡ u)
  at u k found =
      let here : slice_get keys k ≡ Some u = ap (λ us. slice_get us k) (sym whole) ∙ found in
      let within = within_list keys k u here in
      (within, same_Some _ _ (sym (slice_get-get_or keys k u within) ∙ here))

  -- the entity of a uid of the part
  entity_of : (u : Uid) → Contains (uids_of part) u → (e : EntityTree) × Contains part e × (e.uid ≡ u) × (parents_of part u ≡ e.parents)
  entity_of u m = by (entry_of part u) refl (has_listed part u m)
    where
      by : (o : Option EntityTree) → entry_of part u ≡ o → is_some o ≡ true → (e : EntityTree) × Contains part e × (e.uid ≡ u) × (parents_of part u ≡ e.parents)
      by None is t = cc
      by (Some e) is t = let found = entry_in part u e is in (e, found.0, found.1, ap parents_in is)

  same_parents : (u : Uid) → Contains (uids_of part) u → parents_of part u ≡ parents_of w u
  same_parents u m = let found = entity_of u m in found.3 ∙ grown.same found.0 found.1 ∙ ap (parents_of w) found.2

  pub grown_part : IsPartAbove w due part
  grown_part = record {
    distinct = λ u twice. (let i = at u twice.0 twice.3 in let j = at u twice.1 twice.4 in
        AllPairs-from_IsDistinct same_uid-Decides keys once twice.0 twice.1 u twice.2 j.0 (i.1 ∙ sym j.1));
    same = same_parents;
    closed = λ u p m l. (let found = entity_of u m in
        subst (λ us. Contains us p) (sym whole) (grown.closed found.0 found.1 p (subst (λ ps. Contains ps p) (sym (same_parents u m) ∙ found.3) l)));
    all = λ u m. subst (λ us. Contains us u) (sym whole) (grown.all u m);
  }
