-- What goes into a map entry by entry is what the entries say.
use Rattle.std.proofs.Common.{◌≡◌, ◌≢◌, ◌⊎◌, inl, inr, ℕ, suc, codes, List, [], ◌∷◌, map, All, Contains, refl, sym, ap, subst, ◌∙◌, arith, Ordering, Less, Equal, Greater}
use Rattle.std.specs.Prelude.{AllPairs}
use Rattle.std.proofs.lemmas.List.Elements.{All-nil, All-head, All-tail, All-contains, All-contains_itself}
use Rattle.std.specs.BTreeSet.{insert_key}
use Rattle.std.specs.BTreeMap.{insert_entry}
use Rattle.std.specs.Ordering.{match_ordering}
use Rattle.serde_json.specs.Data.{Members}
use Rattle.base_reach.proofs.Listed.{here, there, first_or_later, nowhere, mapped}
use Rattle.cedar_ext.specs.declared.language.Language.{Language}
use Rattle.cedar_value.specs.Order.{text_cmp, uid_cmp}
use Rattle.cedar_value.specs.Private.Same.{text_same, uid_same}
use Rattle.cedar_value.specs.declared.uid.Uid.{Uid}
use Rattle.cedar_schema_json.specs.Naming.{qualified}
use Rattle.cedar_schema_json.specs.Entries.{EntryTree, entries}
use Rattle.cedar_schema_json.specs.Lists.{set_onto}
use Rattle.cedar_schema.specs.Each.{each_onto}
use Rattle.cedar_schema.specs.Declaring.{uid_of, entity_type_of, action_of}
use Rattle.cedar_schema_spec.specs.SchemaTree.{EntityTypeTree, ActionTree}
use Rattle.cedar_schema.specs.Schemas.{sections_of, setting_of, scope_in, schema_in, uids_onto}
use Rattle.cedar_schema.specs.Written.{TypesAreWritten, ActionsAreWritten, NamesAreKept, UidsAreKept}
use Rattle.cedar_schema.proofs.InsertedKeys.{all_keys, kept_key, new_key}

module _ {K V : Type 0} (R : K → K → Ordering) (exact : (a b : K) → R a b ≡ Equal → a ≡ b) where
  -- an entry of the map with one more is that one, or was there
  entry_from : (k : K) (v : V) (es : List (K × V)) (q : K) (w : V) → Contains (insert_entry R es k v) (q, w) → ((q ≡ k) × (w ≡ v)) ⊎ Contains es (q, w)
  entry_from k v [] q w h = elim (first_or_later (k, v) [] (q, w) h) [
    | inl e ↦ inl (sym (ap (λ (p : K × V). p.0) e), sym (ap (λ (p : K × V). p.1) e))
    | inr r ↦ inr r
  ]
  entry_from k v (e ∷ es) q w h = at (R k e.0) refl h (entry_from k v es q w)
    where
      at : (c : Ordering) → R k e.0 ≡ c → Contains (match_ordering c ((k, v) ∷ e ∷ es) ((e.0, v) ∷ es) (e ∷ insert_entry R es k v)) (q, w)
          → (Contains (insert_entry R es k v) (q, w) → ((q ≡ k) × (w ≡ v)) ⊎ Contains es (q, w)) → ((q ≡ k) × (w ≡ v)) ⊎ Contains (e ∷ es) (q, w)
      at Less is m later = elim (first_or_later (k, v) (e ∷ es) (q, w) m) [
        | inl x ↦ inl (sym (ap (λ (p : K × V). p.0) x), sym (ap (λ (p : K × V). p.1) x))
        | inr r ↦ inr r
      ]
      at Equal is m later = elim (first_or_later (e.0, v) es (q, w) m) [
        | inl x ↦ inl (sym (exact k e.0 is ∙ ap (λ (p : K × V). p.0) x), sym (ap (λ (p : K × V). p.1) x))
        | inr r ↦ inr (there e es (q, w) r)
      ]
      at Greater is m later = elim (first_or_later e (insert_entry R es k v) (q, w) m) [
        | inl x ↦ inr (subst (λ y. Contains (e ∷ es) y) x (here e es))
        | inr r ↦ elim (later r) [ inl new ↦ inl new | inr old ↦ inr (there e es (q, w) old) ]
      ]

  -- the new entry is there
  entry_new : (k : K) (v : V) (es : List (K × V)) → Contains (insert_entry R es k v) (k, v)
  entry_new k v [] = here (k, v) []
  entry_new k v (e ∷ es) = at (R k e.0) refl (entry_new k v es)
    where
      at : (c : Ordering) → R k e.0 ≡ c → Contains (insert_entry R es k v) (k, v) → Contains (match_ordering c ((k, v) ∷ e ∷ es) ((e.0, v) ∷ es) (e ∷ insert_entry R es k v)) (k, v)
      at Less is later = here (k, v) (e ∷ es)
      at Equal is later = subst (λ (x : K). Contains ((e.0, v) ∷ es) (x, v)) (sym (exact k e.0 is)) (here (e.0, v) es)
      at Greater is later = there e (insert_entry R es k v) (k, v) later

  -- an entry of another key stays
  entry_kept : (k : K) (v : V) (es : List (K × V)) (q : K) (w : V) → (q ≡ k → ⊥) → Contains es (q, w) → Contains (insert_entry R es k v) (q, w)
  entry_kept k v [] q w other h = absurd (nowhere (q, w) h)
  entry_kept k v (e ∷ es) q w other h = at (R k e.0) refl (first_or_later e es (q, w) h) (entry_kept k v es q w other)
    where
      at : (c : Ordering) → R k e.0 ≡ c → (e ≡ (q, w)) ⊎ Contains es (q, w) → (Contains es (q, w) → Contains (insert_entry R es k v) (q, w))
          → Contains (match_ordering c ((k, v) ∷ e ∷ es) ((e.0, v) ∷ es) (e ∷ insert_entry R es k v)) (q, w)
      at Less is m later = there (k, v) (e ∷ es) (q, w) h
      at Equal is (inl x) later = absurd (other (sym (exact k e.0 is ∙ ap (λ (p : K × V). p.0) x)))
      at Equal is (inr r) later = there (e.0, v) es (q, w) r
      at Greater is (inl x) later = subst (λ y. Contains (e ∷ insert_entry R es k v) y) x (here e (insert_entry R es k v))
      at Greater is (inr r) later = there e (insert_entry R es k v) (q, w) (later r)

  module _ {A : Type 0} (key : A → K) (value : A → V) where
    abbrev add : List (K × V) → A → List (K × V)
    add done x = insert_entry R done (key x) (value x)

    -- what is in the map is what some element says, or was there
    pub onto_from : (xs : List A) (done : List (K × V)) (q : K) (w : V) → Contains (each_onto add done xs) (q, w) → ((x : A) × Contains xs x × (q ≡ key x) × (w ≡ value x)) ⊎ Contains done (q, w)
    unfolding each_onto
    onto_from [] done q w h = inr h
    onto_from (x ∷ xs) done q w h = elim (onto_from xs (add done x) q w h) [
      | inl later ↦ inl (later.0, there x xs later.0 later.1, later.2, later.3)
      | inr now ↦ elim (entry_from (key x) (value x) done q w now) [
        | inl new ↦ inl (x, here x xs, new.0, new.1)
        | inr old ↦ inr old
      ]
    ]

    -- what no later element has the key of stays
    onto_kept : (xs : List A) (done : List (K × V)) (q : K) (w : V) → ((x : A) → Contains xs x → q ≢ key x) → Contains done (q, w) → Contains (each_onto add done xs) (q, w)
    unfolding each_onto
    onto_kept [] done q w others h = h
    onto_kept (x ∷ xs) done q w others h =
        onto_kept xs (add done x) q w (λ y m. others y (there x xs y m)) (entry_kept (key x) (value x) done q w (others x (here x xs)) h)

    -- what each element says is there, where no key is repeated
    pub onto_new : (xs : List A) (done : List (K × V)) → AllPairs (λ a b. a ≢ b) (map key xs) → (x : A) → Contains xs x → Contains (each_onto add done xs) (key x, value x)
    unfolding each_onto
    onto_new [] done apart x h = absurd (nowhere x h)
    onto_new (y ∷ ys) done apart x h = elim (first_or_later y ys x h) [
      | inl is ↦ subst (λ z. Contains (each_onto add (add done y) ys) (key z, value z)) is
          (onto_kept ys (add done y) (key y) (value y) (λ z m. first z (mapped key ys z m)) (entry_new (key y) (value y) done))
      | inr later ↦ onto_new ys (add done y) (λ i j d below within. apart (suc i) (suc j) d (omega arith) (omega arith)) x later
    ]
      where
        first : (z : A) → Contains (map key ys) (key z) → key y ≢ key z
        first z (k, within, is) same = apart 0 (suc k) (key z) (omega arith) (omega arith) (same ∙ sym is)

-- ---- the schema

abbrev name_in : EntryTree → List ℕ
name_in e = qualified e.namespace e.key

abbrev type_in : Language → Members → EntryTree → EntityTypeTree
type_in language root e = entity_type_of (scope_in (setting_of language (sections_of root)) e) (setting_of language (sections_of root)).table e

abbrev action_in : Language → Members → EntryTree → ActionTree
action_in language root e = action_of (scope_in (setting_of language (sections_of root)) e) (setting_of language (sections_of root)).table (setting_of language (sections_of root)).uids e

pub types_written : TypesAreWritten
unfolding schema_in
types_written language root n t = (
  λ h. elim (onto_from text_cmp text_same name_in (type_in language root) (entries (codes "entityTypes") root) [] n t h) [
    | inl x ↦ record { entry = x.0; written = x.1; name = x.2; content = x.3 }
    | inr none ↦ absurd (nowhere (n, t) none)
  ],
  λ apart w. subst (λ (x : List ℕ × EntityTypeTree). Contains (each_onto (add text_cmp text_same name_in (type_in language root)) [] (entries (codes "entityTypes") root)) x)
      (λ i. (sym w.name i, sym w.content i)) (onto_new text_cmp text_same name_in (type_in language root) (entries (codes "entityTypes") root) [] apart w.entry w.written),
)

pub actions_written : ActionsAreWritten
unfolding schema_in
actions_written language root u a = (
  λ h. elim (onto_from uid_cmp uid_same uid_of (action_in language root) (entries (codes "actions") root) [] u a h) [
    | inl x ↦ record { entry = x.0; written = x.1; uid = x.2; content = x.3 }
    | inr none ↦ absurd (nowhere (u, a) none)
  ],
  λ apart w. subst (λ (x : Uid × ActionTree). Contains (each_onto (add uid_cmp uid_same uid_of (action_in language root)) [] (entries (codes "actions") root)) x)
      (λ i. (sym w.uid i, sym w.content i)) (onto_new uid_cmp uid_same uid_of (action_in language root) (entries (codes "actions") root) [] apart w.entry w.written),
)

-- ---- lists that are put in order

set_all : (P : List ℕ → Type 0) (ns done : List (List ℕ)) → All P ns → All P done → All P (set_onto done ns)
set_all P [] done h all = all
set_all P (n ∷ ns) done h all = set_all P ns (insert_key text_cmp done n) (All-tail P n ns h) (all_keys text_cmp P n done (All-head P n ns h) all)

set_kept : (ns done : List (List ℕ)) (m : List ℕ) → Contains done m → Contains (set_onto done ns) m
set_kept [] done m h = h
set_kept (n ∷ ns) done m h = set_kept ns (insert_key text_cmp done n) m (kept_key text_cmp n m done h)

set_new : (ns done : List (List ℕ)) (m : List ℕ) → Contains ns m → Contains (set_onto done ns) m
set_new [] done m h = absurd (nowhere m h)
set_new (n ∷ ns) done m h = elim (first_or_later n ns m h) [
  | inl is ↦ subst (Contains (set_onto (insert_key text_cmp done n) ns)) is (set_kept ns (insert_key text_cmp done n) n (new_key text_cmp text_same n done))
  | inr later ↦ set_new ns (insert_key text_cmp done n) m later
]

pub names_kept : NamesAreKept
names_kept names n = (
  λ h. All-contains (Contains names) (set_onto [] names) n (set_all (Contains names) names [] (All-contains_itself names) (All-nil (Contains names))) h,
  λ h. set_new names [] n h,
)

uids_all : (P : Uid → Type 0) (es : List EntryTree) (done : List Uid) → All P (map uid_of es) → All P done → All P (uids_onto done es)
uids_all P [] done h all = all
uids_all P (e ∷ es) done h all = uids_all P es (insert_key uid_cmp done (uid_of e)) (All-tail P (uid_of e) (map uid_of es) h) (all_keys uid_cmp P (uid_of e) done (All-head P (uid_of e) (map uid_of es) h) all)

uids_still : (es : List EntryTree) (done : List Uid) (v : Uid) → Contains done v → Contains (uids_onto done es) v
uids_still [] done v h = h
uids_still (e ∷ es) done v h = uids_still es (insert_key uid_cmp done (uid_of e)) v (kept_key uid_cmp (uid_of e) v done h)

uids_new : (es : List EntryTree) (done : List Uid) (v : Uid) → Contains (map uid_of es) v → Contains (uids_onto done es) v
uids_new [] done v h = absurd (nowhere v h)
uids_new (e ∷ es) done v h = elim (first_or_later (uid_of e) (map uid_of es) v h) [
  | inl is ↦ subst (Contains (uids_onto (insert_key uid_cmp done (uid_of e)) es)) is (uids_still es (insert_key uid_cmp done (uid_of e)) (uid_of e) (new_key uid_cmp uid_same (uid_of e) done))
  | inr later ↦ uids_new es (insert_key uid_cmp done (uid_of e)) v later
]

pub uids_kept : UidsAreKept
uids_kept es u = (
  λ h. All-contains (Contains (map uid_of es)) (uids_onto [] es) u (uids_all (Contains (map uid_of es)) es [] (All-contains_itself (map uid_of es)) (All-nil (Contains (map uid_of es)))) h,
  λ h. uids_new es [] u h,
)
