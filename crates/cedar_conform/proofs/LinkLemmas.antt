-- Which links a JSON denotes, and that there is but one list.
use Rattle.std.proofs.Common.{◌≡◌, ℕ, List, [], ◌∷◌, ◌++◌, length, Option, Some, None, Result, Ok, Err, refl, sym, ap, subst, ◌∙◌, append_assoc, append-nil}
use Rattle.std.specs.Prelude.{◌≢◌, codes, IfErr, MatchOption, MatchResult}
use Rattle.serde_json.specs.Data.{Data, Items, no_items, item}
use Rattle.serde_json.specs.Find.{get, as_array}
use Rattle.serde_json.specs.View.{view, items_view}
use Rattle.serde_json.specs.declared.value.Value.{Value}
use Rattle.base_json.specs.JsonTree.{json_of}
use Rattle.cedar_value.specs.declared.uid.Uid.{Uid}
use Rattle.cedar_ast.specs.declared.link.Link.{Link}
use Rattle.cedar_ast.specs.declared.slots.Slots.{Slots}
use Rattle.cedar_conform_values.specs.WrittenUids.{WritesUid, WritesOneUid}
use Rattle.cedar_conform_values.specs.declared.conform_fault.ConformFault.{ConformFault}
use Rattle.cedar_conform_values.specs.declared.conform_fault.ConformFault.TheVariants.{OutOfMemory, Json, Shape}
use Rattle.cedar_conform.specs.Links.{IsGiven, DenotesSlots, DenotesLink, DenoteLinks, DenotesLinks, BytesDenoteLinks, LinksAreRefused}
use Rattle.cedar_conform.specs.Private.Refusals.{Refuses}
use Rattle.cedar_conform_entities.proofs.OnlyMemory.{memory_alone}
use Rattle.cedar_conform.proofs.RequestLemmas.{one_uid_at}

-- ---- a link

pub link_refused : (d args : Data) (f : ConformFault) → Some args ≡ get (codes "args") d → Refuses (DenotesSlots args) f → Refuses (DenotesLink d) f
link_refused d args f is told other =
    let t = told other in
    (t.0, λ l h. t.1 l.slots (subst (λ (o : Option Data). MatchOption o ⊥ (λ a. DenotesSlots a l.slots)) (sym is) h.args_at))

-- ---- a list of links

record Split (d : Data) (ds : Items) (ls : List Link) : Type 0 where
  link : Link
  later : List Link
  is : ls ≡ link ∷ later
  denoted : DenotesLink d link
  rest : DenoteLinks ds later

split : (d : Data) (ds : Items) (ls : List Link) → DenoteLinks (item d ds) ls → Split d ds ls
split d ds [] h = absurd h
split d ds (l ∷ ls) h = record { link = l; later = ls; is = refl; denoted = h.0; rest = h.1 }

first_item : (xs : List Value) (x : Value) (rest : List Value) → xs ≡ x ∷ rest → (ls : List Link) → DenoteLinks (items_view xs) ls → Split (view x) (items_view rest) ls
first_item xs x rest e ls h = split (view x) (items_view rest) ls (subst (λ (ys : List Value). DenoteLinks (items_view ys) ls) e h)

module _ (items xs : List Value) (x : Value) (rest : List Value) (e : xs ≡ x ∷ rest) where
  pub items_refused : ((all : List Link) → DenoteLinks (items_view items) all → (later : List Link) × DenoteLinks (items_view xs) later) → (f : ConformFault) → Refuses (DenotesLink (view x)) f → Refuses (DenoteLinks (items_view items)) f
  items_refused left f told other =
      let t = told other in
      (t.0, λ all h. let l = left all h in let s = first_item xs x rest e l.0 l.1 in t.1 s.link s.denoted)

  pub items_whole : (done new : List Link) (l : Link) → ((later : List Link) → DenoteLinks (items_view xs) later → DenoteLinks (items_view items) (done ++ later)) → DenotesLink (view x) l → new ≡ done ++ l ∷ []
      → (later : List Link) → DenoteLinks (items_view rest) later → DenoteLinks (items_view items) (new ++ later)
  items_whole done new l whole is more later h =
      let all = whole (l ∷ later) (subst (λ (ys : List Value). DenoteLinks (items_view ys) (l ∷ later)) (sym e) (is, h)) in
      subst (DenoteLinks (items_view items)) (sym (ap (λ (ls : List Link). ls ++ later) more ∙ append_assoc done (l ∷ []) later)) all

  pub items_left : ((all : List Link) → DenoteLinks (items_view items) all → (later : List Link) × DenoteLinks (items_view xs) later) → (all : List Link) → DenoteLinks (items_view items) all → (later : List Link) × DenoteLinks (items_view rest) later
  items_left left all h = let l = left all h in let s = first_item xs x rest e l.0 l.1 in (s.later, s.rest)

pub items_end : (items xs : List Value) (done : List Link) → length xs ≡ 0 → ((later : List Link) → DenoteLinks (items_view xs) later → DenoteLinks (items_view items) (done ++ later)) → DenoteLinks (items_view items) done
items_end items [] done none whole = subst (DenoteLinks (items_view items)) (append-nil done) (whole [] tt)
items_end items (x ∷ xs) done none whole = cc

-- ---- there is but one

some_is : {A : Type 0} (x y : A) → Some x ≡ Some y → x ≡ y
some_is x y e = cc

module _ (one : WritesOneUid) where
  one_given : (k : List ℕ) (d : Data) (o p : Option Uid) → IsGiven k d o → IsGiven k d p → o ≡ p
  one_given k d None None h g = refl
  one_given k d None (Some v) h g = absurd (subst (λ (x : Option Data). MatchOption x ⊥ (λ found. WritesUid found v)) h g)
  one_given k d (Some u) None h g = absurd (subst (λ (x : Option Data). MatchOption x ⊥ (λ found. WritesUid found u)) g h)
  one_given k d (Some u) (Some v) h g = ap (λ (x : Uid). Some x) (one_uid_at one k d u v h g)

  one_slots : (d : Data) (s t : Slots) → DenotesSlots d s → DenotesSlots d t → s ≡ t
  one_slots d s t h g =
      let p = one_given (codes "?principal") d s.principal t.principal h.principal_given g.principal_given in
      let r = one_given (codes "?resource") d s.resource t.resource h.resource_given g.resource_given in
      λ i. record { principal = p i; resource = r i }

  slots_at : (o : Option Data) (s t : Slots) → MatchOption o ⊥ (λ a. DenotesSlots a s) → MatchOption o ⊥ (λ a. DenotesSlots a t) → s ≡ t
  slots_at None s t h g = absurd h
  slots_at (Some a) s t h g = one_slots a s t h g

  one_link : (d : Data) (l m : Link) → DenotesLink d l → DenotesLink d m → l ≡ m
  one_link d l m h g =
      let t = some_is l.template m.template (sym h.template_at ∙ g.template_at) in
      let n = some_is l.id m.id (sym h.id_at ∙ g.id_at) in
      let s = slots_at (get (codes "args") d) l.slots m.slots h.args_at g.args_at in
      λ i. record { template = t i; id = n i; slots = s i }

  one_list : (ds : Items) (ls ms : List Link) → DenoteLinks ds ls → DenoteLinks ds ms → ls ≡ ms
  one_list no_items [] [] h g = refl
  one_list no_items [] (m ∷ ms) h g = absurd g
  one_list no_items (l ∷ ls) ms h g = absurd h
  one_list (item d ds) [] ms h g = absurd h
  one_list (item d ds) (l ∷ ls) [] h g = absurd g
  one_list (item d ds) (l ∷ ls) (m ∷ ms) h g =
      let first = one_link d l m h.0 g.0 in
      let rest = one_list ds ls ms h.1 g.1 in
      λ i. first i ∷ rest i

  list_at : (o : Option Items) (ls ms : List Link) → MatchOption o ⊥ (λ ds. DenoteLinks ds ls) → MatchOption o ⊥ (λ ds. DenoteLinks ds ms) → ls ≡ ms
  list_at None ls ms h g = absurd h
  list_at (Some ds) ls ms h g = one_list ds ls ms h g

  pub only_links : {A : Type 0} (items : A → List Link) (bytes : List ℕ) (d : Data) → Some d ≡ json_of bytes → (result : Result A ConformFault) → MatchResult result (λ v. DenotesLinks d (items v)) (Refuses (DenotesLinks d))
      → (ls : List Link) → BytesDenoteLinks bytes ls → MatchResult result (λ v. items v ≡ ls) (λ f. f ≡ OutOfMemory)
  only_links {A} items bytes d is result g ls h = at result g (subst (λ (o : Option Data). MatchOption o ⊥ (λ x. DenotesLinks x ls)) (sym is) h)
    where
      at : (r : Result A ConformFault) → MatchResult r (λ v. DenotesLinks d (items v)) (Refuses (DenotesLinks d)) → DenotesLinks d ls → MatchResult r (λ v. items v ≡ ls) (λ f. f ≡ OutOfMemory)
      at (Ok v) told there = list_at (as_array d) (items v) ls told there
      at (Err f) told there = memory_alone f (λ other. (told other).1 ls there)

pub links_refused : {A : Type 0} (items : A → List Link) (bytes : List ℕ) (d : Data) → Some d ≡ json_of bytes → (result : Result A ConformFault) → MatchResult result (λ v. DenotesLinks d (items v)) (Refuses (DenotesLinks d)) → IfErr result (λ f. f ≢ OutOfMemory → LinksAreRefused bytes f)
links_refused items bytes d is (Ok v) told = tt
links_refused items bytes d is (Err f) told = λ other. subst (λ (o : Option Data). MatchOption o (f ≡ Json) (λ x. (f ≡ Shape) × ((ls : List Link) → DenotesLinks x ls → ⊥))) is (told other)
