-- What the parts of an entry are read by: keys, names, lists of uids.
use Rattle.std.proofs.Common.{◌≡◌, ◌↔◌, ℕ, suc, IsTrue, Bool, true, false, not, ◌⊎◌, inl, inr, ⊎_elim, List, [], ◌∷◌, ◌++◌, length, map, take, ◌-◌, Contains, Option, Some, None, option_map, unwrap_or, IfSome, MatchOption, String, codes, refl, sym, ap, subst, ◌∙◌, arith, append_assoc, append-nil}
use Rattle.std.specs.BTreeMap.{is_at}
use Rattle.std.specs.List.{ends_with}
use Rattle.std.specs.Map.{lookup}
use Rattle.std.specs.Prelude.{is_some}
use Rattle.std.specs.declared.alloc.Global.{Global}
use Rattle.std.proofs.Math.Dec.{eqb}
use Rattle.std.proofs.lemmas.Bool.Decides.{Decides-eqb}
use Rattle.std.proofs.lemmas.Map.Views.{IfSome-lookup_from_All}
use Rattle.std.proofs.lemmas.Slice.Eq.{ends_is}
use Rattle.serde_json.specs.Data.{Data, null, boolean, number, string, array, object, Items, no_items, item, no_members}
use Rattle.serde_json.specs.Find.{get, as_array, as_object}
use Rattle.serde_json.specs.View.{members_of, items_of}
use Rattle.base_reach.proofs.Listed.{here, there, first_or_later, nowhere}
use Rattle.cedar_conform_values.specs.Faults.{Told}
use Rattle.cedar_conform_values.specs.Values.{value_read}
use Rattle.cedar_conform_values.specs.WrittenUids.{IsUidObject}
use Rattle.cedar_conform_values.specs.declared.conform_fault.ConformFault.{ConformFault}
use Rattle.cedar_conform_values.specs.declared.conform_fault.ConformFault.TheVariants.{UnknownType, ActionDiffers}
use Rattle.cedar_conform_entities.specs.Denotes.{ReadsEntity, RepeatsAction}
use Rattle.cedar_conform_entities.specs.Entries.{AreUids, no_uids, one_uid, Writes, WritesEntity, IsActionName, attributes_in}
use Rattle.cedar_conform_entities.specs.Faults.{HasEntryFault, no_entry, no_repetition, undeclared, undeclared_parent, no_descent, attributes, unlisted}
use Rattle.cedar_conform_entities.specs.Private.Parts as part
use Rattle.cedar_conform_entities.specs.Private.Parts.{Refuses, AreParentsOf, IsNoEntry, IsGoodParent, HasParentsFault, RefusesEntry}
use Rattle.cedar_schema_spec.specs.Declarations.{IsEntityType}
use Rattle.cedar_schema_spec.specs.Enumerated.{entity_listed}
use Rattle.cedar_schema_spec.specs.SchemaTree.{SchemaTree, EntityTypeTree, shape_of}
use Rattle.cedar_schema_spec.specs.WellFormed.{AreShapesOrdered, IsOrderedRecord}
use Rattle.cedar_schema_types.specs.Types.{TypeTree}
use Rattle.cedar_value.specs.Order.{text_cmp}
use Rattle.cedar_value.specs.World.{EntityTree}
use Rattle.cedar_value.specs.declared.uid.Uid.{Uid}

-- ---- keys

no_suc : (n : ℕ) → suc n ≡ 0 → ⊥
no_suc n h = absurd (omega (arith, h))

pub empty_object : {X : Type 0} (f : X → String Global × Data) (xs : List X) (d : Data) (b : Bool) → Some (members_of (map f xs)) ≡ as_object d → IsTrue b ↔ (length xs ≡ 0) → IsTrue b ↔ (d ≡ object no_members)
empty_object f xs null b e is = cc
empty_object f xs (boolean x) b e is = cc
empty_object f xs (number n) b e is = cc
empty_object f xs (string s) b e is = cc
empty_object f xs (array ds) b e is = cc
empty_object f [] (object ms) b e is = (λ t. (let same : no_members ≡ ms = cc in ap object (sym same)), λ h. is.1 refl)
empty_object f (x ∷ xs) (object ms) b e is = (λ t. absurd (no_suc (length xs) (is.0 t)), λ h. cc)

-- ---- the ends of texts

pub ends_in : (s p : List ℕ) (b : Bool) → b ≡ ends_with eqb s p → IsTrue b ↔ ((front : List ℕ) × (s ≡ front ++ p))
ends_in s p b e = let h = ends_is Decides-eqb s p b e in (λ t. (take (length s - length p) s, h.0 t), λ w. h.1 w.0 w.1)

-- ---- lists of which it is known, up to what is left

pub record AllBut {A : Type 0} (P : A → Type 0) (all rest : List A) : Type 0 where
  pub kept : (x : A) → Contains all x → P x ⊎ Contains rest x
  pub among : (x : A) → Contains rest x → Contains all x

pub all_start : {A : Type 0} (P : A → Type 0) (all : List A) → AllBut P all all
all_start P all = record { kept = λ x m. inr m; among = λ x m. m }

pub all_more : {A : Type 0} (P : A → Type 0) (all rest more : List A) (x : A) → rest ≡ x ∷ more → P x → AllBut P all rest → AllBut P all more
all_more {A} P all rest more x e p h =
    let cases : (y : A) → Contains rest y → (x ≡ y) ⊎ Contains more y = λ y m. first_or_later x more y (subst (λ (ys : List A). Contains ys y) e m) in record {
      kept = λ y m. ⊎_elim (λ q. inl q) (λ r. ⊎_elim (λ is. inl (subst P is p)) (λ q. inr q) (cases y r)) (h.kept y m);
      among = λ y m. h.among y (subst (λ (ys : List A). Contains ys y) (sym e) (there x more y m));
    }

pub all_first : {A : Type 0} (P : A → Type 0) (all rest more : List A) (x : A) → rest ≡ x ∷ more → AllBut P all rest → Contains all x
all_first {A} P all rest more x e h = h.among x (subst (λ (ys : List A). Contains ys x) (sym e) (here x more))

pub all_end : {A : Type 0} (P : A → Type 0) (all rest : List A) → length rest ≡ 0 → AllBut P all rest → (x : A) → Contains all x → P x
all_end P all [] n h x m = ⊎_elim (λ p. p) (λ r. absurd (nowhere x r)) (h.kept x m)
all_end P all (y ∷ ys) n h x m = absurd (no_suc (length ys) n)

-- ---- lists of uids

pub record AreUidsBut (done : List Uid) (rest all : Items) : Type 0 where
  pub denoted : (us : List Uid) → AreUids rest us → AreUids all (done ++ us)
  pub left : (us : List Uid) → AreUids all us → (vs : List Uid) × AreUids rest vs

pub uids_start : (all : Items) → AreUidsBut [] all all
uids_start all = record { denoted = λ us h. h; left = λ us h. (us, h) }

after_one : (d : Data) (rest : Items) (us : List Uid) → AreUids (item d rest) us → (vs : List Uid) × AreUids rest vs
after_one d rest us (one_uid {us = vs} h more) = (vs, more)

first_one : (d : Data) (rest : Items) (us : List Uid) → AreUids (item d rest) us → (u : Uid) × IsUidObject d u
first_one d rest us (one_uid {u = u} h more) = (u, h)

pub uids_more : {X : Type 0} (f : X → Data) (done new : List Uid) (rest others : List X) (x : X) (all : Items) (u : Uid) → rest ≡ x ∷ others → IsUidObject (f x) u → new ≡ done ++ u ∷ [] → AreUidsBut done (items_of (map f rest)) all → AreUidsBut new (items_of (map f others)) all
uids_more f done new rest others x all u is one e h =
    let here : items_of (map f rest) ≡ item (f x) (items_of (map f others)) = ap (λ xs. items_of (map f xs)) is in record {
      denoted = λ us more. subst (AreUids all) (sym (ap (λ xs. xs ++ us) e ∙ append_assoc done (u ∷ []) us)) (h.denoted (u ∷ us) (subst (λ ds. AreUids ds (u ∷ us)) (sym here) (one_uid one more)));
      left = λ us a. let (vs, b) = h.left us a in after_one (f x) (items_of (map f others)) vs (subst (λ ds. AreUids ds vs) here b);
    }

pub uids_refused : {X : Type 0} (f : X → Data) (done : List Uid) (rest others : List X) (x : X) (all : Items) (e : ConformFault) → rest ≡ x ∷ others → Refuses (IsUidObject (f x)) e → AreUidsBut done (items_of (map f rest)) all → Refuses (AreUids all) e
uids_refused f done rest others x all e is told h other =
    let here : items_of (map f rest) ≡ item (f x) (items_of (map f others)) = ap (λ xs. items_of (map f xs)) is in
    ((told other).0, λ us a. let (vs, b) = h.left us a in let (u, one) = first_one (f x) (items_of (map f others)) vs (subst (λ ds. AreUids ds vs) here b) in (told other).1 u one)

pub uids_end : {X : Type 0} (f : X → Data) (done : List Uid) (rest : List X) (all : Items) → length rest ≡ 0 → AreUidsBut done (items_of (map f rest)) all → AreUids all done
uids_end f done [] all e h = subst (AreUids all) (append-nil done) (h.denoted [] no_uids)
uids_end f done (x ∷ xs) all e h = absurd (no_suc (length xs) e)

-- where nothing is at the key, there are none
pub no_parents : (d : Data) (us : List Uid) → None ≡ get (codes "parents") d → us ≡ [] → AreParentsOf d us
no_parents d us e none = subst (λ (o : Option Data). MatchOption (as_array (unwrap_or o (array no_items))) ⊥ (λ ds. AreUids ds us)) e (subst (AreUids no_items) (sym none) no_uids)

-- ---- what the schema says

some_mapped : {B C : Type 0} (f : B → C) (o : Option B) → is_some (option_map f o) ≡ is_some o
some_mapped f None = refl
some_mapped f (Some x) = refl

pub not_declared : {B : Type 0} (f : B → TypeTree) (s : SchemaTree) (n : List ℕ) (o : Option B) (b : Bool) → option_map f o ≡ shape_of s n → is_some o ≡ not b → b ≡ true → ¬ IsEntityType s n
not_declared f s n o b e told t h = let some : is_some o ≡ true = sym (some_mapped f o) ∙ ap is_some e ∙ h in let none : is_some o ≡ false = told ∙ ap not t in let no_more : true ≡ false = sym some ∙ none in cc

pub declared : {B : Type 0} (f : B → TypeTree) (s : SchemaTree) (n : List ℕ) (o : Option B) (b : Bool) → option_map f o ≡ shape_of s n → is_some o ≡ not b → b ≡ false → IsEntityType s n
declared f s n o b e told t = sym (ap is_some e) ∙ some_mapped f o ∙ told ∙ ap not t

pub none_declared : (s : SchemaTree) (n : List ℕ) → None ≡ shape_of s n → ¬ IsEntityType s n
none_declared s n e h = let no_more : false ≡ true = ap is_some e ∙ h in cc

pub not_so : (b : Bool) (P : Type 0) → IsTrue b ↔ P → b ≡ false → ¬ P
not_so b P is f p = let no_more : true ≡ false = sym (is.1 p) ∙ f in cc

ordered_behind : (o : Option EntityTypeTree) (t : TypeTree) → IfSome o (λ e. IsOrderedRecord e.shape) → option_map (λ e. e.shape) o ≡ Some t → IsOrderedRecord t
ordered_behind None t h e = cc
ordered_behind (Some x) t h e = let same : x.shape ≡ t = cc in subst IsOrderedRecord same h

pub shape_ordered : (s : SchemaTree) (n : List ℕ) (t : TypeTree) → AreShapesOrdered s → Some t ≡ shape_of s n → IsOrderedRecord t
shape_ordered s n t all e = ordered_behind (lookup (is_at (text_cmp n)) s.entities) t (IfSome-lookup_from_All (λ (x : EntityTypeTree). IsOrderedRecord x.shape) (is_at (text_cmp n)) s.entities all) (sym e)

-- ---- the entity of an entry

module _ (s : SchemaTree) (d : Data) (u : Uid) (parents : List Uid) (written : Writes d u parents) (other : ¬ IsActionName u.ty) where
  abbrev writes : WritesEntity d u parents
  writes = record { written = written; no_action = other }

  pub type_refused : None ≡ shape_of s u.ty → HasEntryFault s d UnknownType
  type_refused e = undeclared writes (none_declared s u.ty e)

  parents_fault : (f : ConformFault) → HasParentsFault s u parents f → HasEntryFault s d f
  parents_fault f (part.undeclared_parent m h) = undeclared_parent writes m h
  parents_fault f (part.no_descent m h) = no_descent writes m h

  pub parents_refused : (f : ConformFault) (given : List Uid) → given ≡ parents → HasParentsFault s u given f → RefusesEntry s d f
  parents_refused f given e h other = parents_fault f (subst (λ (ps : List Uid). HasParentsFault s u ps f) e h)

  pub good_parents : (given : List Uid) → given ≡ parents → ((p : Uid) → Contains given p → IsGoodParent s u p) → (p : Uid) → Contains parents p → IsGoodParent s u p
  good_parents given e h = subst (λ (ps : List Uid). (p : Uid) → Contains ps p → IsGoodParent s u p) e h

  pub attributes_refused : (f : ConformFault) (shape : TypeTree) → Some shape ≡ shape_of s u.ty → Told (value_read shape (attributes_in d)).faults f → RefusesEntry s d f
  attributes_refused f shape e told other = attributes {shape = shape} writes (sym e) (told other)

-- ---- another entry

pub no_entry_refused : (s : SchemaTree) (d : Data) (f : ConformFault) → IsNoEntry d f → RefusesEntry s d f
no_entry_refused s d f h other = subst (HasEntryFault s d) (sym (h other).0) (no_entry (h other).1)

pub action_refused : (s : SchemaTree) (d : Data) (u : Uid) (parents : List Uid) → Writes d u parents → IsActionName u.ty → ¬ RepeatsAction s d u parents → RefusesEntry s d ActionDiffers
action_refused s d u parents written named h other = no_repetition written named h

pub unlisted_refused : (s : SchemaTree) (d : Data) (e : EntityTree) → ReadsEntity s d e → entity_listed s e ≡ false → RefusesEntry s d UnknownType
unlisted_refused s d e read fails other = unlisted read fails
