-- What an entity is below is what the numbers of its parents lead to.
use Rattle.std.proofs.Common.{◌≡◌, ◌⊎◌, ℕ, zero, suc, ◌+◌, ◌<◌, ◌≤◌, Bool, true, false, cond, List, [], ◌∷◌, ◌++◌, length, get_or, Option, None, Some, is_some, unwrap_or, arith, IsTrue, inl, inr, refl, sym, ap, subst, ◌∙◌, Contains}
use Rattle.std.specs.Option.{option_map}
use Rattle.std.specs.List.{slice_get}
use Rattle.std.proofs.lemmas.Bool.{cases_lt}
use Rattle.std.proofs.lemmas.List.{length-append}
use Rattle.std.proofs.lemmas.List.Quantifiers.{position-Some}
use Rattle.std.proofs.lemmas.Option.{slice_get-get_or}
use Rattle.base_reach.specs.Closure.{LeadsTo}
use Rattle.base_reach.proofs.Listed.{nowhere}
use Rattle.base_search.specs.Links.{AreClosed, list_at, next}
use Rattle.base_search.specs.Numbered.{AreNumbersOf}
use Rattle.base_search.proofs.Finding.{leads_nowhere, next_past}
use Rattle.base_search.proofs.Numbering.{IsNumbering, list_of, number_of, chain_by_numbers, closure_by_numbers, acyclic_by_numbers}
use Rattle.cedar_value.specs.Datum.{same_uid}
use Rattle.cedar_value.specs.Private.Equality.{same_uid-Decides}
use Rattle.cedar_value.specs.World.{EntityTree, World, Below, entry_of, parents_of}
use Rattle.cedar_value.specs.declared.uid.Uid.{Uid}
use Rattle.cedar_store.specs.Entities.{uids_of, IsAcyclic}
use Rattle.cedar_store.specs.Private.Kept.{AreParentNumbers, AreParentsNumbered, AreRows, IsListOf, IsNumberGraph, IsPlace, number_in}
use Rattle.cedar_store.proofs.CutChains.{last_link}
use Rattle.cedar_store.proofs.Numbered.{number_apart}
use Rattle.cedar_store.proofs.Places.{entry_of-placed, entry_of-unplaced}

parents : Option EntityTree → List Uid
parents o = unwrap_or (option_map (λ e. e.parents) o) []

-- the entity at a place has its parents' numbers there
at_place : (keys : List Uid) (w : World) (lists : List (List ℕ)) → AreParentNumbers keys w lists → (k : ℕ) → AreNumbersOf (number_in keys) (parents (slice_get w k)) (get_or lists k [])
unfolding parents
at_place keys [] [] h k = tt
at_place keys [] (ns ∷ lists) h k = absurd h
at_place keys (e ∷ w) [] h k = absurd h
at_place keys (e ∷ w) (ns ∷ lists) h zero = h.0
at_place keys (e ∷ w) (ns ∷ lists) h (suc k) = at_place keys w lists h.1 k

-- ---- each parent has a number

whole_step : (keys : List Uid) (e : EntityTree) (es : World) (p v : Uid) (b : Bool) (ns : List ℕ) → same_uid e.uid p ≡ b → AreNumbersOf (number_in keys) e.parents ns → (Contains (parents (entry_of es p)) v → (n : ℕ) × (number_in keys v ≡ Some n)) → Contains (parents (cond b (Some e) (entry_of es p))) v
    → (n : ℕ) × (number_in keys v ≡ Some n)
unfolding parents
whole_step keys e es p v true ns same are rest m = let of = number_of (number_in keys) e.parents ns v are m in (of.0, of.2)
whole_step keys e es p v false ns same are rest m = rest m

whole_of : (keys : List Uid) (es : World) (ls : List (List ℕ)) → AreParentNumbers keys es ls → (p v : Uid) → Contains (parents (entry_of es p)) v → (n : ℕ) × (number_in keys v ≡ Some n)
unfolding parents
whole_of keys [] [] h p v m = absurd (nowhere v m)
whole_of keys [] (ns ∷ ls) h p v m = absurd h
whole_of keys (e ∷ es) [] h p v m = absurd h
whole_of keys (e ∷ es) (ns ∷ ls) h p v m = whole_step keys e es p v (same_uid e.uid p) ns refl h.0 (whole_of keys es ls h.1 p v) m

module _ (keys : List Uid) (w : World) (lists : List (List ℕ)) (numbered : AreParentNumbers keys w lists) where
  linked_case : (u : Uid) (o : Option ℕ) → IsPlace (uids_of w) u o → AreNumbersOf (number_in keys) (parents_of w u) (list_at lists o)
  unfolding parents
  linked_case u None at = subst (λ e. AreNumbersOf (number_in keys) (parents e) []) (entry_of-unplaced w u at) tt
  linked_case u (Some k) at = subst (λ e. AreNumbersOf (number_in keys) (parents e) (get_or lists k [])) (entry_of-placed w u k at) (at_place keys w lists numbered k)

  pub near_numbers : (u : Uid) (ns : List ℕ) → IsListOf (uids_of w) lists u ns → AreNumbersOf (number_in keys) (parents_of w u) ns
  near_numbers u ns of = subst (AreNumbersOf (number_in keys) (parents_of w u)) (sym of.2) (linked_case u of.0 of.1)

  pub whole : AreParentsNumbered keys w
  unfolding parents
  whole p v m = whole_of keys w lists numbered p v m

  -- what something is below has a number
  pub has_number : (u v : Uid) → Below w u v → IsTrue (is_some (number_in keys v))
  has_number u v chain = let link = last_link chain in ap is_some (whole link.0 v link.1).1

-- ---- the links of numbers

front : {X : Type 0} (us vs : List X) (k : ℕ) (d : X) → k < length us → get_or (us ++ vs) k d ≡ get_or us k d
front [] vs k d within = absurd (omega arith)
front (u ∷ us) vs zero d within = refl
front (u ∷ us) vs (suc k) d within = front us vs k d (omega arith)

last_of : {X : Type 0} (us : List X) (u d : X) → get_or (us ++ u ∷ []) (length us) d ≡ u
last_of [] u d = refl
last_of (x ∷ us) u d = last_of us u d

-- each number below a bound has its own place
abbrev pub ArePlacedBelow : ℕ → List (Option ℕ) → Type 0
ArePlacedBelow i places = ((n : ℕ) → n < i → get_or places n None ≡ Some n) × (length places ≡ i)

pub placed_more : (i : ℕ) (old new : List (Option ℕ)) → ArePlacedBelow i old → new ≡ old ++ Some i ∷ [] → ArePlacedBelow (i + 1) new
placed_more i old new before is = (λ n less. ap (λ os. get_or os n None) is ∙ by n (cases_lt n i) less, let long = before.1 in ap length is ∙ length-append old (Some i ∷ []) ∙ omega arith)
  where
    by : (n : ℕ) → (n < i) ⊎ (i ≤ n) → n < i + 1 → get_or (old ++ Some i ∷ []) n None ≡ Some n
    by n (inl earlier) less = let long = before.1 in front old (Some i ∷ []) n None (omega arith) ∙ before.0 n earlier
    by n (inr from) less = let same : n ≡ i = omega arith in ap (get_or (old ++ Some i ∷ []) n) refl ∙ ap (λ k. get_or (old ++ Some i ∷ []) k None) (same ∙ sym before.1) ∙ last_of old (Some i) None ∙ ap Some (sym same)

module _ (keys : List Uid) (w : World) (lists : List (List ℕ)) (places : List (Option ℕ)) (graph : IsNumberGraph keys w lists places) where
  list_in : (u : Uid) (n : ℕ) → number_in keys u ≡ Some n → AreNumbersOf (number_in keys) (parents_of w u) (get_or lists n [])
  list_in u n at =
      let stands = position-Some (same_uid u) keys n u at in
      let is : get_or keys n u ≡ u = sym ((same_uid-Decides u (get_or keys n u)).0 stands.1) in
      list_of (parents_of w) (number_in keys) keys lists graph.listed n u (slice_get-get_or keys n u stands.0 ∙ ap Some is)

  next_is : (u : Uid) (n : ℕ) → number_in keys u ≡ Some n → next lists places n ≡ get_or lists n []
  next_is u n at = ap (list_at lists) (graph.placed n (position-Some (same_uid u) keys n u at).0)

  pub linked : IsNumbering (parents_of w) (number_in keys) (next lists places)
  linked = record {
    apart = number_apart keys;
    follow = λ u n at. subst (AreNumbersOf (number_in keys) (parents_of w u)) (sym (next_is u n at)) (list_in u n at);
  }

  -- a number that leads somewhere is one of the keys
  pub number_within : (n m : ℕ) → LeadsTo (next lists places) n m → n < length keys
  number_within n m chain = elim (cases_lt n (length keys)) [
    | inl within ↦ within
    | inr past ↦ absurd (leads_nowhere (next lists places) n m (next_past lists places n (subst (λ long. long ≤ n) (sym graph.long) past)) chain)
  ]

  pub below_by_numbers : (u : Uid) (n : ℕ) → number_in keys u ≡ Some n → LeadsTo (next lists places) n n → Below w u u
  below_by_numbers u n at chain = (chain_by_numbers (parents_of w) (number_in keys) (next lists places) linked u u n n at at).1 chain

  pub rows_closed : (rows : List (List ℕ)) → AreClosed lists places rows → AreRows keys w rows
  rows_closed rows closed n u at = closure_by_numbers (parents_of w) (number_in keys) (next lists places) linked u (get_or lists n []) (get_or rows n []) (list_in u n at) (closed n)

  pub acyclic_links : AreParentsNumbered keys w → ((n : ℕ) → LeadsTo (next lists places) n n → ⊥) → IsAcyclic w
  acyclic_links numbered none = acyclic_by_numbers (parents_of w) (number_in keys) (next lists places) linked numbered none
