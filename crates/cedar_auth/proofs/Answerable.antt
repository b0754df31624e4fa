-- Every line has an answer: it denotes a request, or it has a fault.
use Rattle.std.proofs.Common.{◌≡◌, ◌≢◌, ◌⊎◌, ℕ, Bool, true, false, inl, inr, ⊎_elim, List, [], ◌∷◌, Contains, codes, Option, Some, None, refl, sym, ap, subst, ◌∙◌}
use Rattle.std.specs.Prelude.{MatchOption, IsTrue}
use Rattle.std.specs.Bool.{Decides}
use Rattle.std.specs.Str.{bytes_eq}
use Rattle.std.proofs.lemmas.List.Elements.{All-contains}
use Rattle.std.proofs.lemmas.Slice.Eq.{bytes_eq-Decides}
use Rattle.serde_json.specs.Data.{Data}
use Rattle.serde_json.specs.Find.{get, as_str}
use Rattle.serde_json.specs.Written.{compact_text}
use Rattle.base_json.specs.JsonTree.{json_of}
use Rattle.cedar_value.specs.Datum.{Datum, Fields, no_fields, field, record_of, fields_of, pairs_of}
use Rattle.cedar_value.specs.Names.{IsName, is_name}
use Rattle.cedar_value.specs.declared.request.Request.{Request}
use Rattle.cedar_value.specs.declared.uid.Uid.{Uid}
use Rattle.cedar_parser_tokens.specs.UidText.{IsUidText}
use Rattle.cedar_schema_types.specs.Membership.{Member}
use Rattle.cedar_schema_types.specs.Types.{TypeTree, is_record}
use Rattle.cedar_schema_types.specs.Types as kind
use Rattle.cedar_ast.specs.Response.{response}
use Rattle.cedar_schema_spec.specs.Declarations.{IsAction, is_action, ActionsAreDecided}
use Rattle.cedar_schema_spec.specs.Enumerated.{request_listed}
use Rattle.cedar_schema_spec.specs.SchemaTree.{SchemaTree, shape_of, environments_of, HasEnvironment}
use Rattle.cedar_schema_spec.specs.WellFormed.{AreContextsOrdered, IsOrderedRecord}
use Rattle.cedar_schema_spec.specs.declared.environment.Environment.{Environment}
use Rattle.cedar_conform_values.specs.Belonging.{ReadValuesBelong}
use Rattle.cedar_conform_values.specs.Objects.{has_only}
use Rattle.cedar_conform_values.specs.Uids.{uid_object}
use Rattle.cedar_conform_values.specs.Values.{value_read}
use Rattle.cedar_conform_values.specs.WrittenUids.{IsUidObject, WritesUid, UidAt}
use Rattle.cedar_conform_values.specs.Numbers.{number_of}
use Rattle.cedar_conform_values.specs.declared.conform_fault.ConformFault.{ConformFault}
use Rattle.cedar_conform_values.specs.declared.conform_fault.ConformFault.TheVariants.{OutOfMemory, Json, Shape, UnknownType, NoSuchAction, ActionDoesNotApply}
use Rattle.cedar_conform.specs.Requests.{is_request_key, Names, Lacks, IsShapeless, context_of, Reads, Denotes, HasFault, LineDenotes, LineHasFault}
use Rattle.cedar_auth_spec.specs.AnswerJson.{response_data, refused_data}
use Rattle.cedar_auth.specs.AnswerLine.{AnswersLine}
use Rattle.cedar_auth_spec.specs.Ready.{ReadyTree}
use Rattle.base_reach.proofs.Listed.{here, there, first_or_later, nowhere}
use Rattle.cedar_auth.proofs.TrueFaults.{Others, of_value}

-- ---- records

pub fields_back : (fs : Fields) → fields_of (pairs_of fs) ≡ fs
fields_back no_fields = refl
fields_back (field k d fs) = ap (λ (x : Fields). field k d x) (fields_back fs)

-- a value of a type of records is a record
pub record_in : (t : TypeTree) (v : Datum) → IsTrue (is_record t) → Member t v → (fs : Fields) × (v ≡ record_of fs)
record_in (kind.record_of a) (record_of fs) r m = (fs, refl)
record_in (kind.record_of a) _ r m = absurd m
record_in _ v r m = cc

-- ---- uids

-- which texts are those of uids, and which are names
abbrev pub UidsAreDecided : Type 0
UidsAreDecided = (source : List ℕ) → ((u : Uid) × IsUidText source u) ⊎ ((u : Uid) → IsUidText source u → ⊥)

abbrev pub NamesAreDecided : Type 0
NamesAreDecided = (text : List ℕ) → Decides (is_name text) (IsName text)

module _ (uids : UidsAreDecided) (names : NamesAreDecided) where
  named : (d : Data) (v : Uid) (b : Bool) → uid_object d ≡ Some v → is_name v.ty ≡ b → ((u : Uid) × IsUidObject d u) ⊎ ((u : Uid) → IsUidObject d u → ⊥)
  named d v true e t = inl (v, (e, (names v.ty).0 t))
  named d v false e t =
      inr (λ u h.
      let both : Some u ≡ Some v = sym h.0 ∙ e in
      let same : u ≡ v = cc in
      let told : true ≡ false = sym ((names v.ty).1 (subst (λ (x : Uid). IsName x.ty) same h.1)) ∙ t in cc)

  pub object_by : (d : Data) (o : Option Uid) → uid_object d ≡ o → ((u : Uid) × IsUidObject d u) ⊎ ((u : Uid) → IsUidObject d u → ⊥)
  object_by d None e = inr (λ u h. let both : Some u ≡ None = sym h.0 ∙ e in cc)
  object_by d (Some v) e = named d v (is_name v.ty) e refl

  written_by : (d : Data) (o : Option (List ℕ)) → ((u : Uid) × MatchOption o (IsUidObject d u) (λ s. IsUidText s u)) ⊎ ((u : Uid) → MatchOption o (IsUidObject d u) (λ s. IsUidText s u) → ⊥)
  written_by d None = object_by d (uid_object d) refl
  written_by d (Some s) = uids s

  at_by : (o : Option Data) → ((u : Uid) × MatchOption o ⊥ (λ found. WritesUid found u)) ⊎ ((u : Uid) → MatchOption o ⊥ (λ found. WritesUid found u) → ⊥)
  at_by None = inr (λ u h. h)
  at_by (Some d) = written_by d (as_str d)

  pub uid_at : (k : List ℕ) (d : Data) → ((u : Uid) × UidAt k d u) ⊎ Lacks k d
  uid_at k d = at_by (get k d)

-- ---- environments

text_by : (b : Bool) (x y : List ℕ) → Decides b (x ≡ y) → (x ≡ y) ⊎ (x ≡ y → ⊥)
text_by true x y d = inl (d.0 refl)
text_by false x y d = inr (λ e. let told : false ≡ true = d.1 e in cc)

pub same_text : (x y : List ℕ) → (x ≡ y) ⊎ (x ≡ y → ⊥)
same_text x y = text_by (bytes_eq x y) x y (bytes_eq-Decides x y)

pub uid_by : (u v : Uid) → (u.ty ≡ v.ty) ⊎ (u.ty ≡ v.ty → ⊥) → (u.id ≡ v.id) ⊎ (u.id ≡ v.id → ⊥) → (u ≡ v) ⊎ (u ≡ v → ⊥)
uid_by u v (inl x) (inl y) = inl (λ i. record { ty = x i; id = y i })
uid_by u v (inr n) y = inr (λ e. n (ap (λ (w : Uid). w.ty) e))
uid_by u v (inl x) (inr n) = inr (λ e. n (ap (λ (w : Uid). w.id) e))

module _ (a : Uid) (p r : List ℕ) where
  Found : List Environment → Type 0
  Found envs = (t : TypeTree) × Contains envs (record { action = a; principal = p; resource = r; context = t })

  NotFound : List Environment → Type 0
  NotFound envs = (t : TypeTree) → Contains envs (record { action = a; principal = p; resource = r; context = t }) → ⊥

  later : (e : Environment) (es : List Environment) → ((t : TypeTree) → e ≡ record { action = a; principal = p; resource = r; context = t } → ⊥) → Found es ⊎ NotFound es → Found (e ∷ es) ⊎ NotFound (e ∷ es)
  unfolding Found NotFound
  later e es n (inl f) = inl (f.0, there e es _ f.1)
  later e es n (inr g) = inr (λ t m. ⊎_elim (λ same. n t same) (λ behind. g t behind) (first_or_later e es (record { action = a; principal = p; resource = r; context = t }) m))

  found_by : (e : Environment) (es : List Environment) → (e.action ≡ a) ⊎ (e.action ≡ a → ⊥) → (e.principal ≡ p) ⊎ (e.principal ≡ p → ⊥) → (e.resource ≡ r) ⊎ (e.resource ≡ r → ⊥) → Found es ⊎ NotFound es → Found (e ∷ es) ⊎ NotFound (e ∷ es)
  unfolding Found NotFound
  found_by e es (inl x) (inl y) (inl z) rest =
      let this : e ≡ record { action = a; principal = p; resource = r; context = e.context } = λ i. record { action = x i; principal = y i; resource = z i; context = e.context } in
      inl (e.context, subst (λ (f : Environment). Contains (e ∷ es) f) this (here e es))
  found_by e es (inr n) y z rest = later e es (λ t is. n (ap (λ (x : Environment). x.action) is)) rest
  found_by e es (inl x) (inr n) z rest = later e es (λ t is. n (ap (λ (x : Environment). x.principal) is)) rest
  found_by e es (inl x) (inl y) (inr n) rest = later e es (λ t is. n (ap (λ (x : Environment). x.resource) is)) rest

  environment_or_none : (envs : List Environment) → Found envs ⊎ NotFound envs
  unfolding NotFound
  environment_or_none [] = inr (λ t m. nowhere _ m)
  environment_or_none (e ∷ es) =
      found_by e es (uid_by e.action a (same_text e.action.ty a.ty) (same_text e.action.id a.id)) (same_text e.principal p) (same_text e.resource r) (environment_or_none es)

-- ---- the whole

module _ (uids : UidsAreDecided) (names : NamesAreDecided) (actions : ActionsAreDecided) (belong : ReadValuesBelong) (s : SchemaTree) (contexts : AreContextsOrdered s) where
  -- the JSON denotes a request, or it has a fault
  abbrev Judged : Data → Type 0
  Judged d = ((q : Request) × Denotes s d q) ⊎ ((f : ConformFault) × (f ≢ OutOfMemory) × HasFault s d f)

  shapeless : (d : Data) → IsShapeless d → Judged d
  shapeless d h = inr (Shape, λ e. cc, inl (refl, h))

  -- what reads as a request denotes it, or it writes a uid that its type does not have
  by_ids : {d : Data} (q : Request) → Reads s d q → (b : Bool) → request_listed s q ≡ b → Judged d
  by_ids q read true is = inl (q, record { read = read; uids = is })
  by_ids q read false is = inr (UnknownType, λ e. cc, inr (inr (inr (refl, (q, read, is)))))

  module _ (d : Data) (keys : has_only is_request_key d ≡ true) (p a r : Uid) (n : Names d p a r) where
    by_context : (t : TypeTree) → HasEnvironment s.actions a p.ty r.ty t → (fs : List ConformFault) → (value_read t (context_of d)).faults ≡ fs → Others fs → Judged d
    by_context t applies [] e o =
        let kind_of = All-contains (λ (env : Environment). IsOrderedRecord env.context) (environments_of s.actions) (record { action = a; principal = p.ty; resource = r.ty; context = t }) contexts applies in
        let found = record_in t (value_read t (context_of d)).value kind_of.0 (belong t (context_of d) e) in
        let q : Request = record { principal = p; action = a; resource = r; context = pairs_of found.0 } in
        by_ids q (record { keys = keys; names = n; context_type = t; applies = applies; fine = e; context = ap (λ (x : Fields). record_of x) (fields_back found.0) ∙ sym found.1 }) (request_listed s q) refl
    by_context t applies (f ∷ fs) e o =
        inr (f, o.0, inr (inr (inl (record { principal = p; action = a; resource = r; names = n; context_type = t; applies = applies; broken = subst (λ (xs : List ConformFault). Contains xs f) (sym e) (here f fs) }))))

    by_environment : IsAction s a → Found a p.ty r.ty (environments_of s.actions) ⊎ NotFound a p.ty r.ty (environments_of s.actions) → Judged d
    unfolding Found NotFound
    by_environment is (inl f) = by_context f.0 f.1 (value_read f.0 (context_of d)).faults refl (of_value f.0 (context_of d))
    by_environment is (inr none) = inr (ActionDoesNotApply, λ e. cc, inr (inl (p, a, r, n, (is, none))))

    by_action : (b : Bool) → is_action s a ≡ b → Judged d
    by_action true e = by_environment ((actions s a).0 e) (environment_or_none a p.ty r.ty (environments_of s.actions))
    by_action false e = inr (NoSuchAction, λ e. cc, inr (inl (p, a, r, n, λ is. let told : true ≡ false = sym ((actions s a).1 is) ∙ e in cc)))

    by_resource : (o : Option TypeTree) → shape_of s r.ty ≡ o → Judged d
    by_resource None e = inr (UnknownType, λ e. cc, inr (inl (p, a, r, n, inr e)))
    by_resource (Some t) e = by_action (is_action s a) refl

    by_principal : (o : Option TypeTree) → shape_of s p.ty ≡ o → Judged d
    by_principal None e = inr (UnknownType, λ e. cc, inr (inl (p, a, r, n, inl e)))
    by_principal (Some t) e = by_resource (shape_of s r.ty) refl

  by_uids : (d : Data) → has_only is_request_key d ≡ true → ((u : Uid) × UidAt (codes "principal") d u) ⊎ Lacks (codes "principal") d → ((u : Uid) × UidAt (codes "action") d u) ⊎ Lacks (codes "action") d → ((u : Uid) × UidAt (codes "resource") d u) ⊎ Lacks (codes "resource") d → Judged d
  by_uids d keys (inl p) (inl a) (inl r) = by_principal d keys p.0 a.0 r.0 (record { principal_at = p.1; action_at = a.1; resource_at = r.1 }) (shape_of s p.0.ty) refl
  by_uids d keys (inr none) a r = shapeless d (inr (inl none))
  by_uids d keys (inl p) (inr none) r = shapeless d (inr (inr (inl none)))
  by_uids d keys (inl p) (inl a) (inr none) = shapeless d (inr (inr (inr none)))

  pub by_keys : (d : Data) (b : Bool) → has_only is_request_key d ≡ b → Judged d
  by_keys d true e = by_uids d e (uid_at uids names (codes "principal") d) (uid_at uids names (codes "action") d) (uid_at uids names (codes "resource") d)
  by_keys d false e = shapeless d (inl e)

-- ---- lines

-- a line that denotes a request has no fault
abbrev pub DenotedHaveNoFault : SchemaTree → Type 0
DenotedHaveNoFault s = (line : List ℕ) (q : Request) (f : ConformFault) → LineDenotes s line q → ¬ LineHasFault s line f

module _ (r : ReadyTree) (none : DenotedHaveNoFault r.schema) (line : List ℕ) where
  refused_by : (f : ConformFault) → f ≢ OutOfMemory → LineHasFault r.schema line f → (text : List ℕ) × AnswersLine r line text
  refused_by f other has = (compact_text (refused_data (number_of f)), inr (f, other, has, λ q h. none line q f h has, refl))

  answer_by : (d : Data) → json_of line ≡ Some d → ((q : Request) × Denotes r.schema d q) ⊎ ((f : ConformFault) × (f ≢ OutOfMemory) × HasFault r.schema d f) → (text : List ℕ) × AnswersLine r line text
  answer_by d e (inl h) = (
    compact_text (response_data (response r.policies.policies h.0 r.world)),
    inl (h.0, subst (λ (o : Option Data). MatchOption o ⊥ (λ x. Denotes r.schema x h.0)) (sym e) h.1, refl),
  )
  answer_by d e (inr h) = refused_by h.0 h.1 (subst (λ (o : Option Data). MatchOption o (h.0 ≡ Json) (λ x. HasFault r.schema x h.0)) (sym e) h.2)

  line_by : UidsAreDecided → NamesAreDecided → ActionsAreDecided → ReadValuesBelong → AreContextsOrdered r.schema → (o : Option Data) → json_of line ≡ o → (text : List ℕ) × AnswersLine r line text
  line_by uids names actions belong contexts None e = refused_by Json (λ e. cc) (subst (λ (o : Option Data). MatchOption o (Json ≡ Json) (λ x. HasFault r.schema x Json)) (sym e) refl)
  line_by uids names actions belong contexts (Some d) e = answer_by d e (by_keys uids names actions belong r.schema contexts d (has_only is_request_key d) refl)

pub answerable : UidsAreDecided → NamesAreDecided → ActionsAreDecided → ReadValuesBelong → (r : ReadyTree) → AreContextsOrdered r.schema → DenotedHaveNoFault r.schema
    → (line : List ℕ) → (text : List ℕ) × AnswersLine r line text
answerable uids names actions belong r contexts none line = line_by r none line uids names actions belong contexts (json_of line) refl
