-- What is declared one by one is well formed as a whole.
use Rattle.std.proofs.Common.{◌≡◌, codes, ℕ, Bool, true, false, cond, nat_eq, List, [], ◌∷◌, Option, Some, None, option_map, unwrap_or, IfSome, All, Contains, refl, sym, ap, ◌∙◌, subst, Ordering, Less, Equal, Greater}
use Rattle.std.proofs.lemmas.Cmp.{nat_list_cmp_total}
use Rattle.std.proofs.lemmas.List.Elements.{All-nil, All-cons, All-head, All-tail, All-append, All-contains, All-weaker}
use Rattle.std.proofs.lemmas.Map.Views.{All-values-insert_entry, All-keys-insert_entry, Contains-from_any, tells_apart}
use Rattle.std.specs.BTreeMap.{insert_entry, is_at}
use Rattle.std.specs.BTreeSet.{insert_key}
use Rattle.std.specs.Cmp.{IsTotalOrder}
use Rattle.std.specs.List.{list_any, AllByRecursion}
use Rattle.std.specs.List.Sorted.{IsStrictlySortedBy}
use Rattle.std.specs.Map.{keys_of, values_of, lookup}
use Rattle.std.specs.Ordering.{match_ordering}
use Rattle.serde_json.specs.Data.{Data, Items, no_items, item}
use Rattle.serde_json.specs.Find.{get, as_str, as_array}
use Rattle.cedar_value.specs.Private.Laws.{uid_total}
use Rattle.cedar_value.specs.Order.{text_cmp, uid_cmp}
use Rattle.cedar_value.specs.Private.Same.{text_same, uid_same}
use Rattle.cedar_ext.specs.declared.language.Language.{Language}
use Rattle.cedar_value.specs.declared.uid.Uid.{Uid}
use Rattle.cedar_schema_json.specs.declared.schema_fault.SchemaFault.{SchemaFault}
use Rattle.cedar_schema_json.specs.declared.schema_fault.SchemaFault.TheVariants.{Shape}
use Rattle.cedar_schema_spec.specs.declared.environment.Environment.{Environment}
use Rattle.cedar_schema_json.specs.Naming.{qualified, or_else, resolved}
use Rattle.cedar_schema_json.specs.Reading.{Scope, text_at}
use Rattle.cedar_schema_json.specs.Entries.{EntryTree, whole_names, entity_key_faults, unless_null}
use Rattle.cedar_schema.specs.Each.{each_faults, each_onto}
use Rattle.cedar_schema_json.specs.Lists.{ListRead, each_read, list_at, name_read, some_name, names_at, set_onto}
use Rattle.cedar_schema.specs.Declaring.{applies_read, unspecified, listed_uid, with_type, typed_uid, found_uid, by_type, by_id, by_member, member_read, entity_type_of, entity_type_faults, action_of, uid_of}
use Rattle.cedar_schema_spec.specs.SchemaTree.{SchemaTree, EntityTypeTree, ActionTree, environments_of, parents_of_action}
use Rattle.cedar_schema_spec.specs.Private.Environments.{with_principals, with_resources}
use Rattle.cedar_schema.specs.Schemas.{Setting, schema_in, add_entity, add_enumeration, add_action, entity_faults, one_action_faults, scope_in, uids_onto}
use Rattle.base_reach.specs.Closure.{one_link, more_links}
use Rattle.cedar_schema_spec.specs.Descents.{ActionDescends}
use Rattle.cedar_schema.specs.Private.NamedForms.{FormNames}
use Rattle.cedar_schema.specs.Private.SettingView.{IsSettingOf}
use Rattle.cedar_schema_spec.specs.WellFormed.{IsOrderedRecord, AreMembersDeclared, AreActionContextsOrdered, AreContextsOrdered, NamesOnly, IsWellFormed}
use Rattle.cedar_schema.proofs.ExpandedOrder.{shape_ordered, context_ordered}
use Rattle.cedar_schema_spec.specs.Private.Linked.{actions_listed}
use Rattle.cedar_schema.proofs.InsertedKeys.{all_keys, kept_key, new_key, sorted_more}
use Rattle.cedar_schema.proofs.NameEnds.{no_first, no_second, is_no_action}
use Rattle.cedar_schema.proofs.NamedTypes.{names_more, shape_named, context_named}
use Rattle.cedar_schema.proofs.ResolvedNames.{IsOf, resolved_in}

-- ---- entries that go into a map one by one

module _ {A K V : Type 0} (R : K → K → Ordering) (key : A → K) (value : A → V) where
  abbrev pub add : List (K × V) → A → List (K × V)
  add done x = insert_entry R done (key x) (value x)

  pub values_onto : (P : V → Type 0) (xs : List A) (done : List (K × V)) → All P (values_of done) → All (λ x. P (value x)) xs → All P (values_of (each_onto add done xs))
  unfolding each_onto
  values_onto P [] done before h = before
  values_onto P (x ∷ xs) done before h =
      values_onto P xs (add done x) (All-values-insert_entry R (key x) (value x) P done before (All-head (λ y. P (value y)) x xs h)) (All-tail (λ y. P (value y)) x xs h)

  pub keys_onto : (P : K → Type 0) (xs : List A) (done : List (K × V)) → All P (keys_of done) → All (λ x. P (key x)) xs → All P (keys_of (each_onto add done xs))
  unfolding each_onto
  keys_onto P [] done before h = before
  keys_onto P (x ∷ xs) done before h =
      keys_onto P xs (add done x) (All-keys-insert_entry R (key x) (value x) P done before (All-head (λ y. P (key y)) x xs h)) (All-tail (λ y. P (key y)) x xs h)

  keys_more : (k : K) (v : V) (es : List (K × V)) → keys_of (insert_entry R es k v) ≡ insert_key R (keys_of es) k
  keys_more k v [] = refl
  keys_more k v (e ∷ es) = at (R k e.0) (keys_more k v es)
    where
      at : (c : Ordering) → keys_of (insert_entry R es k v) ≡ insert_key R (keys_of es) k → keys_of (match_ordering c ((k, v) ∷ e ∷ es) ((e.0, v) ∷ es) (e ∷ insert_entry R es k v)) ≡ match_ordering c (k ∷ e.0 ∷ keys_of es) (e.0 ∷ keys_of es) (e.0 ∷ insert_key R (keys_of es) k)
      at Less h = refl
      at Equal h = refl
      at Greater h = ap (λ ks. e.0 ∷ ks) h

  module _ (o : IsTotalOrder R) where
    pub sorted_onto : (xs : List A) (done : List (K × V)) → IsStrictlySortedBy R (keys_of done) → IsStrictlySortedBy R (keys_of (each_onto add done xs))
    unfolding each_onto
    sorted_onto [] done up = up
    sorted_onto (x ∷ xs) done up = sorted_onto xs (add done x) (subst (IsStrictlySortedBy R) (sym (keys_more (key x) (value x) done)) (sorted_more R o (key x) (keys_of done) up))

-- what holds of each value holds of one that a look-up finds
All-values_lookup : {K V : Type 0} (P : V → Type 0) (test : K → Bool) (es : List (K × V)) → All P (values_of es) → IfSome (lookup test es) P
All-values_lookup P test [] h = tt
All-values_lookup P test (e ∷ es) h = at (test e.0) (All-values_lookup P test es (All-tail P e.1 (values_of es) h))
  where
    at : (b : Bool) → IfSome (lookup test es) P → IfSome (cond b (Some e.1) (lookup test es)) P
    at true later = All-head P e.1 (values_of es) h
    at false later = later

-- ---- the uids of the actions are the keys of what is declared

pub uids_are : (s : Setting) (es : List EntryTree) (done : List (Uid × ActionTree)) → uids_onto (keys_of done) es ≡ keys_of (each_onto (add_action s) done es)
unfolding each_onto
uids_are s [] done = refl
uids_are s (e ∷ es) done =
    ap (λ ks. uids_onto ks es) (sym (keys_more {A = EntryTree} uid_cmp uid_of (λ x. action_of (scope_in s x) s.table s.uids x) (uid_of e) (action_of (scope_in s e) s.table s.uids e) done)) ∙ uids_are s es (add_action s done e)

-- ---- members

module _ (uids : List Uid) where
  listed_in : (u : Uid) → IfSome (listed_uid uids u) (Contains uids)
  listed_in u = at (list_any (is_at (uid_cmp u)) uids) refl
    where
      at : (b : Bool) → list_any (is_at (uid_cmp u)) uids ≡ b → IfSome (cond b (Some u) None) (Contains uids)
      at true h = Contains-from_any (tells_apart {R = uid_cmp} uid_same) u uids h
      at false h = tt

  else_in : (o p : Option Uid) → IfSome o (Contains uids) → IfSome p (Contains uids) → IfSome (or_else o p) (Contains uids)
  else_in None p h g = g
  else_in (Some u) p h g = h

  typed_in : (namespace ty id : List ℕ) → IfSome (typed_uid uids namespace ty id) (Contains uids)
  unfolding typed_uid
  typed_in namespace ty id = at (list_any (nat_eq 58) ty)
    where
      at : (b : Bool) → IfSome (cond b (listed_uid uids (with_type id ty)) (or_else (listed_uid uids (with_type id (qualified namespace ty))) (listed_uid uids (with_type id ty)))) (Contains uids)
      at true = listed_in (with_type id ty)
      at false = else_in _ _ (listed_in (with_type id (qualified namespace ty))) (listed_in (with_type id ty))

  abbrev AreIn : ListRead Uid → Type 0
  AreIn r = All (Contains uids) r.items

  found_in : (faults : List SchemaFault) (o : Option Uid) → IfSome o (Contains uids) → AreIn (found_uid faults o)
  found_in faults None h = All-nil (Contains uids)
  found_in faults (Some u) h = All-cons (Contains uids) u [] h (All-nil (Contains uids))

  type_in : (namespace id : List ℕ) (o : Option (List ℕ)) → AreIn (by_type uids namespace id o)
  type_in namespace id None = All-nil (Contains uids)
  type_in namespace id (Some ty) = found_in _ (typed_uid uids namespace ty id) (typed_in namespace ty id)

  id_in : (namespace id : List ℕ) (o : Option Data) → AreIn (by_id uids namespace id o)
  id_in namespace id None = found_in [] _ (listed_in (with_type id (qualified namespace (codes "Action"))))
  id_in namespace id (Some d) = type_in namespace id (as_str d)

  at_id : (namespace : List ℕ) (d : Data) (o : Option (List ℕ)) → AreIn (by_member uids namespace d o)
  at_id namespace d None = All-nil (Contains uids)
  at_id namespace d (Some id) = id_in namespace id (get (codes "type") d)

  member_in : (language : Language) (namespace : List ℕ) (d : Data) → AreIn (member_read language uids namespace d)
  unfolding member_read
  member_in language namespace d = at_id namespace d (text_at (codes "id") d)

  each_in : (language : Language) (namespace : List ℕ) (ds : Items) → AreIn (each_read (member_read language uids namespace) ds)
  unfolding each_read
  each_in language namespace no_items = All-nil (Contains uids)
  each_in language namespace (item d ds) = All-append (Contains uids) (member_read language uids namespace d).items (each_read (member_read language uids namespace) ds).items (member_in language namespace d) (each_in language namespace ds)

  list_in : (language : Language) (namespace : List ℕ) (o : Option Data) → AreIn (list_at (member_read language uids namespace) [] o)
  list_in language namespace None = All-nil (Contains uids)
  list_in language namespace (Some d) = at (as_array d)
    where
      at : (o : Option Items) → AreIn (unwrap_or (option_map (each_read (member_read language uids namespace)) o) (record { items = []; faults = Shape ∷ [] }))
      at None = All-nil (Contains uids)
      at (Some ds) = each_in language namespace ds

-- each direct parent of an action that is read is among the uids
pub parents_in : (s : Setting) (e : EntryTree) → All (Contains s.uids) (action_of (scope_in s e) s.table s.uids e).parents
unfolding action_of
parents_in s e = list_in s.uids s.language e.namespace (unless_null (get (codes "memberOf") e.body))

-- ---- the lists of an action

abbrev AppliesToTypes : List (List ℕ) → ActionTree → Type 0
AppliesToTypes types a = (IsStrictlySortedBy text_cmp a.principals × All (Contains types) a.principals) × (IsStrictlySortedBy text_cmp a.resources × All (Contains types) a.resources)

item_in : (names : List (List ℕ)) (o : Option (List ℕ × ℕ)) → IfSome o (IsOf names) → All (Contains names) (unwrap_or (option_map (λ n. n.0 ∷ []) o) [])
item_in names None h = All-nil (Contains names)
item_in names (Some n) h = All-cons (Contains names) n.0 [] h (All-nil (Contains names))

text_in : (names : List (List ℕ)) (namespace : List ℕ) (o : Option (List ℕ)) → All (Contains names) (some_name names namespace o).items
text_in names namespace None = All-nil (Contains names)
text_in names namespace (Some s) = item_in names (resolved names namespace s) (resolved_in names namespace s)

names_in : (names : List (List ℕ)) (namespace : List ℕ) (ds : Items) → All (Contains names) (each_read (name_read names namespace) ds).items
unfolding each_read
names_in names namespace no_items = All-nil (Contains names)
names_in names namespace (item d ds) = All-append (Contains names) (name_read names namespace d).items (each_read (name_read names namespace) ds).items (text_in names namespace (as_str d)) (names_in names namespace ds)

names_at_in : (sc : Scope) (missing : List SchemaFault) (o : Option Data) → All (Contains sc.entities) (names_at sc missing o).items
names_at_in sc missing None = All-nil (Contains sc.entities)
names_at_in sc missing (Some d) = at (as_array d)
  where
    at : (o : Option Items) → All (Contains sc.entities) (unwrap_or (option_map (each_read (name_read sc.entities sc.namespace)) o) (record { items = []; faults = Shape ∷ [] })).items
    at None = All-nil (Contains sc.entities)
    at (Some ds) = names_in sc.entities sc.namespace ds

set_sorted : (ns done : List (List ℕ)) → IsStrictlySortedBy text_cmp done → IsStrictlySortedBy text_cmp (set_onto done ns)
set_sorted [] done up = up
set_sorted (n ∷ ns) done up = set_sorted ns (insert_key text_cmp done n) (sorted_more text_cmp nat_list_cmp_total n done up)

set_all : (P : List ℕ → Type 0) (ns done : List (List ℕ)) → All P ns → All P done → All P (set_onto done ns)
set_all P [] done h all = all
set_all P (n ∷ ns) done h all = set_all P ns (insert_key text_cmp done n) (All-tail P n ns h) (all_keys text_cmp P n done (All-head P n ns h) all)

none_sorted : IsStrictlySortedBy text_cmp []
unfolding IsStrictlySortedBy
none_sorted = tt

-- the names of the entries are keys of what they declare
module _ (s : Setting) where
  kept_types : (es : List EntryTree) (done : List (List ℕ × EntityTypeTree)) (m : List ℕ) → Contains (keys_of done) m → Contains (keys_of (each_onto (add_entity s) done es)) m
  unfolding each_onto
  kept_types [] done m h = h
  kept_types (e ∷ es) done m h =
      kept_types es (add_entity s done e) m
      (subst (λ (ks : List (List ℕ)). Contains ks m) (sym (keys_more {A = EntryTree} text_cmp (λ x. qualified x.namespace x.key) (λ x. entity_type_of (scope_in s x) s.table x) (qualified e.namespace e.key) (entity_type_of (scope_in s e) s.table e) done))
      (kept_key text_cmp (qualified e.namespace e.key) m (keys_of done) h))

  named_types : (es : List EntryTree) (done : List (List ℕ × EntityTypeTree)) → All (Contains (keys_of (each_onto (add_entity s) done es))) (whole_names es)
  unfolding each_onto
  named_types [] done = All-nil (Contains (keys_of done))
  named_types (e ∷ es) done =
      All-cons (Contains (keys_of (each_onto (add_entity s) (add_entity s done e) es))) (qualified e.namespace e.key) (whole_names es)
      (kept_types es (add_entity s done e) (qualified e.namespace e.key)
      (subst (λ (ks : List (List ℕ)). Contains ks (qualified e.namespace e.key)) (sym (keys_more {A = EntryTree} text_cmp (λ x. qualified x.namespace x.key) (λ x. entity_type_of (scope_in s x) s.table x) (qualified e.namespace e.key) (entity_type_of (scope_in s e) s.table e) done))
      (new_key text_cmp text_same (qualified e.namespace e.key) (keys_of done))))
      (named_types es (add_entity s done e))

  module _ (es : List EntryTree) (names : s.entities ≡ whole_names es) where
    abbrev types_of : List (List ℕ)
    types_of = keys_of (each_onto (add_entity s) [] es)

    is_type : (n : List ℕ) → Contains s.entities n → Contains types_of n
    is_type n h = All-contains (Contains types_of) (whole_names es) n (named_types es []) (subst (λ (ks : List (List ℕ)). Contains ks n) names h)

    list_applies : (sc : Scope) (missing : List SchemaFault) (o : Option Data) → sc.entities ≡ s.entities → IsStrictlySortedBy text_cmp (set_onto [] (names_at sc missing o).items) × All (Contains types_of) (set_onto [] (names_at sc missing o).items)
    list_applies sc missing o same = (
      set_sorted (names_at sc missing o).items [] none_sorted,
      set_all (Contains types_of) (names_at sc missing o).items []
          (All-weaker (Contains sc.entities) (Contains types_of) (λ n h. is_type n (subst (λ (ks : List (List ℕ)). Contains ks n) same h)) (names_at sc missing o).items (names_at_in sc missing o))
          (All-nil (Contains types_of)),
    )

    read_applies : (sc : Scope) (o : Option Data) → sc.entities ≡ s.entities
        → (IsStrictlySortedBy text_cmp (applies_read sc s.table o).principals × All (Contains types_of) (applies_read sc s.table o).principals)
        × (IsStrictlySortedBy text_cmp (applies_read sc s.table o).resources × All (Contains types_of) (applies_read sc s.table o).resources)
    unfolding applies_read
    read_applies sc None same = ((none_sorted, All-nil (Contains types_of)), (none_sorted, All-nil (Contains types_of)))
    read_applies sc (Some d) same = (list_applies sc (unspecified d) (get (codes "principalTypes") d) same, list_applies sc (unspecified d) (get (codes "resourceTypes") d) same)

    typed_parents : (e : EntryTree) → All (Contains types_of) (entity_type_of (scope_in s e) s.table e).parents
    unfolding entity_type_of
    typed_parents e = All-weaker (Contains s.entities) (Contains types_of) is_type (names_at (scope_in s e) [] (get (codes "memberOfTypes") e.body)).items (names_at_in (scope_in s e) [] (get (codes "memberOfTypes") e.body))

    pub all_parents_typed : (xs : List EntryTree) → All (λ e. All (Contains types_of) (entity_type_of (scope_in s e) s.table e).parents) xs
    all_parents_typed [] = All-nil (λ (e : EntryTree). All (Contains types_of) (entity_type_of (scope_in s e) s.table e).parents)
    all_parents_typed (x ∷ xs) = All-cons (λ (e : EntryTree). All (Contains types_of) (entity_type_of (scope_in s e) s.table e).parents) x xs (typed_parents x) (all_parents_typed xs)

    module _ (forms : AllByRecursion (FormNames s.entities) s.table) where
      pub shapes_named : (xs : List EntryTree) → All (λ e. NamesOnly types_of (entity_type_of (scope_in s e) s.table e).shape) xs
      shapes_named [] = All-nil (λ (e : EntryTree). NamesOnly types_of (entity_type_of (scope_in s e) s.table e).shape)
      shapes_named (x ∷ xs) =
          All-cons (λ (e : EntryTree). NamesOnly types_of (entity_type_of (scope_in s e) s.table e).shape) x xs
          (names_more s.entities types_of is_type (entity_type_of (scope_in s x) s.table x).shape (shape_named (scope_in s x) s.table forms x)) (shapes_named xs)

      pub contexts_named : (xs : List EntryTree) → All (λ e. NamesOnly types_of (action_of (scope_in s e) s.table s.uids e).context) xs
      contexts_named [] = All-nil (λ (e : EntryTree). NamesOnly types_of (action_of (scope_in s e) s.table s.uids e).context)
      contexts_named (x ∷ xs) =
          All-cons (λ (e : EntryTree). NamesOnly types_of (action_of (scope_in s e) s.table s.uids e).context) x xs
          (names_more s.entities types_of is_type (action_of (scope_in s x) s.table s.uids x).context (context_named (scope_in s x) s.table forms s.uids x)) (contexts_named xs)

    applied : (e : EntryTree) → AppliesToTypes types_of (action_of (scope_in s e) s.table s.uids e)
    unfolding action_of
    applied e = read_applies (scope_in s e) (unless_null (get (codes "appliesTo") e.body)) refl

    pub all_apply : (xs : List EntryTree) → All (λ e. AppliesToTypes types_of (action_of (scope_in s e) s.table s.uids e)) xs
    all_apply [] = All-nil (λ (e : EntryTree). AppliesToTypes types_of (action_of (scope_in s e) s.table s.uids e))
    all_apply (x ∷ xs) = All-cons (λ (e : EntryTree). AppliesToTypes types_of (action_of (scope_in s e) s.table s.uids e)) x xs (applied x) (all_apply xs)

-- ---- names

-- no action's type has this name
IsTypeName : List ℕ → Type 0
IsTypeName n = (namespace : List ℕ) → qualified namespace (codes "Action") ≡ n → ⊥

HasActionType : Uid → Type 0
HasActionType u = (namespace : List ℕ) × (u.ty ≡ qualified namespace (codes "Action"))

key_fine : (s : Setting) (e : EntryTree) → entity_faults s e ≡ [] → entity_key_faults (scope_in s e) e.key ≡ []
unfolding entity_type_faults
key_fine s e h = no_first (entity_key_faults (scope_in s e) e.key) _ h

each_fine : {A : Type 0} (f : A → List SchemaFault) (xs : List A) → each_faults f xs ≡ [] → All (λ x. f x ≡ []) xs
unfolding each_faults
each_fine f [] h = All-nil (λ x. f x ≡ [])
each_fine f (x ∷ xs) h = All-cons (λ x. f x ≡ []) x xs (no_first (f x) _ h) (each_fine f xs (no_second (f x) _ h))

types_apart : (types : List (List ℕ)) (uids : List Uid) → All IsTypeName types → All HasActionType uids → All (λ u. ¬ Contains types u.ty) uids
unfolding IsTypeName HasActionType
types_apart types uids ts us = All-weaker HasActionType (λ u. ¬ Contains types u.ty) (λ u h c. All-contains IsTypeName types u.ty ts c h.0 (sym h.1)) uids us

-- ---- contexts of environments

module _ (u : Uid) (a : ActionTree) (h : IsOrderedRecord a.context) where
  resources_ascend : (p : List ℕ) (rs : List (List ℕ)) → All (λ (e : Environment). IsOrderedRecord e.context) (with_resources u p a.context rs)
  resources_ascend p [] = All-nil (λ (e : Environment). IsOrderedRecord e.context)
  resources_ascend p (r ∷ rs) = All-cons (λ (e : Environment). IsOrderedRecord e.context) _ (with_resources u p a.context rs) h (resources_ascend p rs)

  principals_ascend : (ps : List (List ℕ)) → All (λ (e : Environment). IsOrderedRecord e.context) (with_principals u a ps)
  principals_ascend [] = All-nil (λ (e : Environment). IsOrderedRecord e.context)
  principals_ascend (p ∷ ps) = All-append (λ (e : Environment). IsOrderedRecord e.context) (with_resources u p a.context a.resources) (with_principals u a ps) (resources_ascend p a.resources) (principals_ascend ps)

environments_ascend : (es : List (Uid × ActionTree)) → All (λ a. IsOrderedRecord a.context) (values_of es) → All (λ (e : Environment). IsOrderedRecord e.context) (environments_of es)
environments_ascend [] h = All-nil (λ (e : Environment). IsOrderedRecord e.context)
environments_ascend (x ∷ xs) h =
    All-append (λ (e : Environment). IsOrderedRecord e.context) (with_principals x.0 x.1 (x.1).principals) (environments_of xs) (principals_ascend x.0 x.1 (All-head (λ (a : ActionTree). IsOrderedRecord a.context) x.1 (values_of xs) h) (x.1).principals)
    (environments_ascend xs (All-tail (λ (a : ActionTree). IsOrderedRecord a.context) x.1 (values_of xs) h))

pub contexts_ordered : (s : SchemaTree) → AreActionContextsOrdered s → AreContextsOrdered s
contexts_ordered s h = environments_ascend s.actions h

-- ---- the whole

named : (s : Setting) (e : EntryTree) → entity_faults s e ≡ [] → IsTypeName (qualified e.namespace e.key)
unfolding IsTypeName
named s e h namespace is = is_no_action (scope_in s e) e.namespace namespace e.key (key_fine s e h) is

called : (xs : List EntryTree) → All (λ e. HasActionType (uid_of e)) xs
unfolding HasActionType
called [] = All-nil (λ (e : EntryTree). HasActionType (uid_of e))
called (x ∷ xs) = All-cons (λ (e : EntryTree). HasActionType (uid_of e)) x xs (x.namespace, refl) (called xs)

all_parents_in : (s : Setting) (xs : List EntryTree) → All (λ e. All (Contains s.uids) (action_of (scope_in s e) s.table s.uids e).parents) xs
all_parents_in s [] = All-nil (λ (e : EntryTree). All (Contains s.uids) (action_of (scope_in s e) s.table s.uids e).parents)
all_parents_in s (x ∷ xs) = All-cons (λ (e : EntryTree). All (Contains s.uids) (action_of (scope_in s e) s.table s.uids e).parents) x xs (parents_in s x) (all_parents_in s xs)

pub all_well_formed : (s : Setting) (es as' : List EntryTree) → IsSettingOf s es as' → each_faults (entity_faults s) es ≡ [] → each_faults (one_action_faults s) as' ≡ [] → IsWellFormed (schema_in s es as')
unfolding schema_in IsStrictlySortedBy
all_well_formed s es as' of fine right =
    let shape = λ (e : EntryTree). entity_type_of (scope_in s e) s.table e in
    let act = λ (e : EntryTree). action_of (scope_in s e) s.table s.uids e in
    let name = λ (e : EntryTree). qualified e.namespace e.key in
    let same : s.uids ≡ keys_of (each_onto (add_action s) [] as') = of.uids ∙ uids_are s as' [] in
    let contexts = values_onto uid_cmp uid_of act (λ a. IsOrderedRecord a.context) as' [] (All-nil (λ (a : ActionTree). IsOrderedRecord a.context)) (All-weaker (λ e. one_action_faults s e ≡ []) (λ e. IsOrderedRecord (act e).context) (λ e h. context_ordered (scope_in s e) s.table s.uids e h) as' (each_fine (one_action_faults s) as' right)) in
    let types = keys_of (each_onto (add_entity s) [] es) in
    record {
      in_order = (sorted_onto text_cmp name shape nat_list_cmp_total es [] tt, sorted_onto uid_cmp uid_of act uid_total as' [] tt);
      apart = types_apart (keys_of (each_onto (add_entity s) [] es)) (keys_of (each_onto (add_action s) [] as'))
          (keys_onto text_cmp name shape IsTypeName es [] (All-nil IsTypeName) (All-weaker (λ e. entity_faults s e ≡ []) (λ e. IsTypeName (name e)) (named s) es (each_fine (entity_faults s) es fine)))
          (keys_onto uid_cmp uid_of act HasActionType as' [] (All-nil HasActionType) (called as'));
      entity_parents = values_onto text_cmp name shape (λ e. All (Contains types) e.parents) es [] (All-nil (λ (e : EntityTypeTree). All (Contains types) e.parents)) (all_parents_typed s es of.names es);
      members = subst (λ us. All (λ (a : ActionTree). All (Contains us) a.parents) (values_of (each_onto (add_action s) [] as'))) same
          (values_onto uid_cmp uid_of act (λ a. All (Contains s.uids) a.parents) as' [] (All-nil (λ (a : ActionTree). All (Contains s.uids) a.parents)) (all_parents_in s as'));
      shapes = values_onto text_cmp name shape (λ e. IsOrderedRecord e.shape) es [] (All-nil (λ (e : EntityTypeTree). IsOrderedRecord e.shape)) (All-weaker (λ e. entity_faults s e ≡ []) (λ e. IsOrderedRecord (shape e).shape) (λ e h. shape_ordered (scope_in s e) s.table e h) es (each_fine (entity_faults s) es fine));
      lists = values_onto uid_cmp uid_of act (AppliesToTypes types) as' [] (All-nil (AppliesToTypes types)) (all_apply s es of.names as');
      action_contexts = contexts;
      types_declared = (
        values_onto text_cmp name shape (λ e. NamesOnly types e.shape) es [] (All-nil (λ (e : EntityTypeTree). NamesOnly types e.shape)) (shapes_named s es of.names of.forms es),
        values_onto uid_cmp uid_of act (λ a. NamesOnly types a.context) as' [] (All-nil (λ (a : ActionTree). NamesOnly types a.context)) (contexts_named s es of.names of.forms as'),
      );
    }

pub declared_well_formed : (s : Setting) (es as' : List EntryTree) (en : List (List ℕ × EntityTypeTree)) (ac : List (Uid × ActionTree)) (li : List (List ℕ × List (List ℕ))) → IsSettingOf s es as'
    → (each_faults (entity_faults s) es ≡ []) × (en ≡ each_onto (add_entity s) [] es) → li ≡ each_onto add_enumeration [] es → (each_faults (one_action_faults s) as' ≡ []) × (ac ≡ each_onto (add_action s) [] as')
    → IsWellFormed (record { entities = en; actions = ac; enumerated = li })
unfolding schema_in
declared_well_formed s es as' en ac li of entities listed actions =
    let same : schema_in s es as' ≡ record { entities = en; actions = ac; enumerated = li } = λ i. record { entities = sym entities.1 i; actions = sym actions.1 i; enumerated = sym listed i } in
    subst IsWellFormed same (all_well_formed s es as' of entities.0 actions.0)

-- ---- what lies above an action

module _ (s : SchemaTree) (members : AreMembersDeclared s) where
  pub low_declared : (u v : Uid) → Contains (parents_of_action s.actions u) v → Contains (keys_of s.actions) u
  low_declared u v h = actions_listed s.actions u v h

  parents_declared : (o : Option ActionTree) → IfSome o (λ a. All (Contains (keys_of s.actions)) a.parents) → All (Contains (keys_of s.actions)) (unwrap_or (option_map (λ a. a.parents) o) [])
  parents_declared None h = All-nil (Contains (keys_of s.actions))
  parents_declared (Some a) h = h

  pub high_declared : (u v : Uid) → Contains (parents_of_action s.actions u) v → Contains (keys_of s.actions) v
  high_declared u v h =
      All-contains (Contains (keys_of s.actions)) (parents_of_action s.actions u) v
      (parents_declared (lookup (is_at (uid_cmp u)) s.actions) (All-values_lookup (λ (a : ActionTree). All (Contains (keys_of s.actions)) a.parents) (is_at (uid_cmp u)) s.actions members)) h

  pub above_declared : (u v : Uid) → ActionDescends s u v → Contains (keys_of s.actions) u × Contains (keys_of s.actions) v
  above_declared u v (one_link l) = (low_declared u v l, high_declared u v l)
  above_declared u v (more_links {p = p} l rest) = (low_declared u p l, (above_declared p v rest).1)
