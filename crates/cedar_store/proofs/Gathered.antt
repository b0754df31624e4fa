-- Lists that gain uids, each once.
use Rattle.std.proofs.Common.{◌≡◌, ◌≢◌, ◌↔◌, ℕ, ◌+◌, ◌-◌, ◌<◌, ◌≤◌, ◌⊎◌, inl, inr, ⊎_elim, List, [], ◌∷◌, ◌++◌, length, take, drop, get_or, Bor, AllPairs, Contains, true, is_ok, Ok, Err, Result, OnOk, length-drop, refl, sym, ap, subst, ◌∙◌, arith}
use Rattle.std.proofs.lemmas.List.{drop-append-le, drop-take, drop_all, map-append, length-append, take-append-drop, take-append-le, take_all, take_more}
use Rattle.std.proofs.lemmas.List.Elements.{Contains-append_left, Contains-get_or, Contains-push, Contains-push_cases}
use Rattle.std.proofs.lemmas.List.Quantifiers.{all_pairs_push}
use Rattle.base_reach.specs.Private.Lent.{lent}
use Rattle.base_reach.proofs.Listed.{left_of, nowhere}
use Rattle.base_reach.proofs.Searching.{lent-push}
use Rattle.cedar_value.specs.World.{World, Below}
use Rattle.cedar_value.specs.declared.uid.Uid.{Uid}
use Rattle.cedar_store.specs.Ancestors.{AddsAncestors}
use Rattle.cedar_store.specs.Private.Gathered.{Adds, Gathers, KeepsFirst}

-- ---- the first of a list

pub KeepsFirst-on : (n : ℕ) (a b c : List (Bor Uid)) → KeepsFirst n a b → KeepsFirst n b c → KeepsFirst n a c
KeepsFirst-on n a b c one two = (two.0 ∙ one.0, two.1)

pub KeepsFirst-push : (n : ℕ) (us new : List (Bor Uid)) (b : Bor Uid) → n ≤ length us → new ≡ us ++ b ∷ [] → KeepsFirst n us new
KeepsFirst-push n us new b room is =
    let size : length (us ++ b ∷ []) ≡ length us + 1 = length-append us (b ∷ []) in
    (ap (take n) is ∙ take-append-le n us (b ∷ []) room, subst (λ l. n ≤ length l) (sym is) (omega arith))

-- the slice from a place on
pub slice_rest : {X : Type 0} (n : ℕ) (us : List X) → take (length us - n) (drop n us) ≡ drop n us
slice_rest n us = let size : length (drop n us) ≡ length us - n = length-drop n us in take_all (length us - n) (drop n us) (omega arith)

pub taken_among : (k : ℕ) (us : List (Bor Uid)) (u : Uid) → Contains (lent (take k us)) u → Contains (lent us) u
taken_among k us u m =
    let whole : lent (take k us) ++ lent (drop k us) ≡ lent us = sym (map-append (λ (b : Bor Uid). b.now) (take k us) (drop k us)) ∙ ap lent (take-append-drop k us) in
    subst (λ l. Contains l u) whole (left_of (lent (take k us)) (lent (drop k us)) u m)

pub was_ok : {T E P : Type 0} (r : Result T E) → is_ok r ≡ true → OnOk r P → P
was_ok (Ok x) h p = p
was_ok (Err y) h p = cc

-- ---- steps

pub Gathers-none : (n : ℕ) (us : List (Bor Uid)) (P : Uid → Type 0) → ((v : Uid) → ¬ P v) → Gathers n us us P
Gathers-none n us P none = record {
  once = λ h. h;
  told = λ v. (λ m. inl m, λ h. ⊎_elim (λ m. m) (λ p. absurd (none v p)) h);
}

pub Gathers-had : (n : ℕ) (us : List (Bor Uid)) (u : Uid) → Contains (lent (drop n us)) u → Gathers n us us (λ v. u ≡ v)
Gathers-had n us u had = record {
  once = λ h. h;
  told = λ v. (λ m. inl m, λ h. ⊎_elim (λ m. m) (λ same. subst (Contains (lent (drop n us))) same had) h);
}

pub Gathers-push : (n : ℕ) (us new : List (Bor Uid)) (b : Bor Uid) → n ≤ length us → ¬ Contains (lent (drop n us)) b.now → new ≡ us ++ b ∷ [] → Gathers n us new (λ v. b.now ≡ v)
Gathers-push n us new b room absent is =
    let last : lent (drop n new) ≡ lent (drop n us) ++ b.now ∷ [] = ap (λ l. lent (drop n l)) is ∙ lent-push (drop n (us ++ b ∷ [])) (drop n us) b (drop-append-le n us (b ∷ []) room) in record {
      once = λ h. subst (AllPairs (λ u v. u ≢ v)) (sym last) (all_pairs_push (λ u v. u ≢ v) (lent (drop n us)) b.now h apart);
      told = λ v. (
        λ m. Contains-push_cases (lent (drop n us)) b.now v (subst (λ l. Contains l v) last m),
        λ h. subst (λ l. Contains l v) (sym last) (⊎_elim (λ m. Contains-append_left (lent (drop n us)) (b.now ∷ []) v m) (λ same. subst (Contains (lent (drop n us) ++ b.now ∷ [])) same (Contains-push (lent (drop n us)) b.now)) h),
      );
    }
  where
    apart : (k : ℕ) (d : Uid) → k < length (lent (drop n us)) → get_or (lent (drop n us)) k d ≢ b.now
    apart k d within same = absent (subst (Contains (lent (drop n us))) same (Contains-get_or (lent (drop n us)) k d within))

pub Gathers-on : (n : ℕ) (a b c : List (Bor Uid)) (P Q R : Uid → Type 0) → Gathers n a b P → Gathers n b c Q → ((v : Uid) → R v ↔ (P v ⊎ Q v)) → Gathers n a c R
Gathers-on n a b c P Q R one two all = record {
  once = λ h. two.once (one.once h);
  told = λ v. (
    λ m. ⊎_elim (λ before. ⊎_elim (λ first. inl first) (λ p. inr ((all v).1 (inl p))) ((one.told v).0 before)) (λ q. inr ((all v).1 (inr q))) ((two.told v).0 m),
    λ h. (two.told v).1 (⊎_elim (λ first. inl ((one.told v).1 (inl first))) (λ r. ⊎_elim (λ p. inl ((one.told v).1 (inr p))) (λ q. inr q) ((all v).0 r)) h),
  );
}

pub Gathers-as : (n : ℕ) (a b : List (Bor Uid)) (P Q : Uid → Type 0) → ((v : Uid) → P v ↔ Q v) → Gathers n a b P → Gathers n a b Q
Gathers-as n a b P Q same one = record {
  once = one.once;
  told = λ v. (
    λ m. ⊎_elim (λ first. inl first) (λ p. inr ((same v).0 p)) ((one.told v).0 m),
    λ h. (one.told v).1 (⊎_elim (λ first. inl first) (λ q. inr ((same v).1 q)) h),
  );
}

-- what was gathered has not the uid, so the list has it from where it began to where gathering did
pub still_known : (begun end : ℕ) (old now : List (Bor Uid)) (P : Uid → Type 0) (u : Uid) → begun ≤ end → end ≡ length old → KeepsFirst end old now → Gathers begun old now P → ¬ P u
    → Contains (lent (drop begun now)) u → Contains (lent (take (end - begun) (drop begun now))) u
still_known begun end old now P u order whole kept gathers apart m =
    let room : length old ≤ end = omega arith in
    let reach : begun + (end - begun) ≡ end = omega arith in
    let front : take (end - begun) (drop begun now) ≡ drop begun old =
    sym (drop-take begun (end - begun) now) ∙ ap (λ k. drop begun (take k now)) reach ∙ ap (drop begun) (kept.0 ∙ take_all end old room) in
    subst (λ l. Contains (lent l) u) (sym front) (⊎_elim (λ before. before) (λ p. absurd (apart p)) ((gathers.told u).0 m))

-- ---- what lists tell

pub told_push : (seen : List Uid) (u v : Uid) → Contains (seen ++ u ∷ []) v ↔ (Contains seen v ⊎ (u ≡ v))
told_push seen u v = (
  λ m. Contains-push_cases seen u v m,
  λ h. ⊎_elim (λ m. Contains-append_left seen (u ∷ []) v m) (λ same. subst (Contains (seen ++ u ∷ [])) same (Contains-push seen u)) h,
)

-- one element more of a list: some element has R
pub some_more : (ps : List Uid) (i : ℕ) (u : Uid) (R : Uid → Type 0) → i < length ps → u ≡ get_or ps i u → ((p : Uid) × Contains (take (i + 1) ps) p × R p) ↔ (((p : Uid) × Contains (take i ps) p × R p) ⊎ R u)
some_more ps i u R within is =
    let more : take (i + 1) ps ≡ take i ps ++ u ∷ [] = take_more ps i u within ∙ ap (λ x. take i ps ++ x ∷ []) (sym is) in (
      λ h. ⊎_elim (λ m. inl (h.0, m, h.2)) (λ same. inr (subst R (sym same) h.2)) ((told_push (take i ps) u h.0).0 (subst (λ l. Contains l h.0) more h.1)),
      λ h. ⊎_elim (λ before. (before.0, subst (λ l. Contains l before.0) (sym more) ((told_push (take i ps) u before.0).1 (inl before.1)), before.2)) (λ r. (u, subst (λ l. Contains l u) (sym more) ((told_push (take i ps) u u).1 (inr refl)), r)) h,
    )

-- ---- what was gathered past the whole list is added to it

pub Adds-gathered : (n : ℕ) (old new : List (Bor Uid)) (P : Uid → Type 0) → n ≡ length old → KeepsFirst n old new → Gathers n old new P → Adds old new P
Adds-gathered n old new P whole kept gathers =
    let room : length old ≤ n = omega arith in
    let none : drop n old ≡ [] = drop_all n old room in
    let all : take n old ≡ old = take_all n old room in record {
      added = drop n new;
      appended = sym (take-append-drop n new) ∙ ap (λ l. l ++ drop n new) (kept.0 ∙ all);
      once = gathers.once (subst (λ l. AllPairs (λ u v. u ≢ v) (lent l)) (sym none) (λ i j d less within. absurd (omega arith)));
      told = λ v. (
        λ m. ⊎_elim (λ first. absurd (nowhere v (subst (λ l. Contains (lent l) v) none first))) (λ p. p) ((gathers.told v).0 m),
        λ p. (gathers.told v).1 (inr p),
      );
    }

pub cut_back : (n : ℕ) (old new : List (Bor Uid)) → n ≡ length old → KeepsFirst n old new → take n new ≡ old
cut_back n old new whole kept = let room : length old ≤ n = omega arith in kept.0 ∙ take_all n old room

pub AddsAncestors-added : (w : World) (low : Uid) (old new : List (Bor Uid)) (P : Uid → Type 0) → ((v : Uid) → P v ↔ Below w low v) → Adds old new P → AddsAncestors w low old new
AddsAncestors-added w low old new P above adds = record {
  added = adds.added;
  appended = adds.appended;
  once = adds.once;
  above = λ v. (λ m. (above v).0 ((adds.told v).0 m), λ b. (adds.told v).1 ((above v).1 b));
}

pub AddsAncestors-as : (w x : World) (low : Uid) (old new : List (Bor Uid)) → ((v : Uid) → Below w low v ↔ Below x low v) → AddsAncestors w low old new → AddsAncestors x low old new
AddsAncestors-as w x low old new same adds = record {
  added = adds.added;
  appended = adds.appended;
  once = adds.once;
  above = λ v. (λ m. (same v).0 ((adds.above v).0 m), λ b. (adds.above v).1 ((same v).1 b));
}
