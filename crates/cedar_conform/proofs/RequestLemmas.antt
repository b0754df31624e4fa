-- Which request a JSON denotes, and that there is but one.
use Rattle.std.proofs.Common.{◌≡◌, ℕ, true, false, inl, inr, List, [], ◌∷◌, Contains, Option, Some, None, Result, Ok, Err, refl, sym, ap, subst, ◌∙◌}
use Rattle.std.specs.Prelude.{◌≢◌, codes, IfErr, IfOk, MatchOption, MatchResult, option_map, unwrap_or}
use Rattle.std.specs.List.Sorted.{IsStrictlySortedBy}
use Rattle.std.specs.Map.{keys_of}
use Rattle.serde_json.specs.Data.{Data, Members, object}
use Rattle.serde_json.specs.Find.{as_object, get}
use Rattle.base_reach.proofs.Listed.{nowhere}
use Rattle.base_json.specs.JsonTree.{json_of}
use Rattle.cedar_value.specs.Datum.{Datum, record_of, fields_of, pairs_of}
use Rattle.cedar_value.specs.Order.{uid_cmp}
use Rattle.cedar_value.specs.declared.request.Request.{Request}
use Rattle.cedar_value.specs.declared.uid.Uid.{Uid}
use Rattle.cedar_schema_types.specs.Membership.{Member}
use Rattle.cedar_schema_types.specs.Types.{TypeTree}
use Rattle.cedar_schema_spec.specs.Conformance.{Fits}
use Rattle.cedar_schema_spec.specs.Enumerated.{request_listed}
use Rattle.cedar_schema_spec.specs.SchemaTree.{SchemaTree}
use Rattle.cedar_schema_spec.specs.WellFormed.{AreListsDeclared, IsListedInOrder}
use Rattle.cedar_conform_values.specs.Belonging.{ReadValuesBelong}
use Rattle.cedar_conform_values.specs.Objects.{are_only}
use Rattle.cedar_conform_values.specs.Values.{value_read}
use Rattle.cedar_conform_values.specs.WrittenUids.{UidAt, WritesUid, WritesOneUid}
use Rattle.cedar_conform_values.specs.declared.conform_fault.ConformFault.{ConformFault}
use Rattle.cedar_conform_values.specs.declared.conform_fault.ConformFault.TheVariants.{OutOfMemory, Json, Shape, UnknownType, NoSuchAction, ActionDoesNotApply}
use Rattle.cedar_conform_entities.proofs.OnlyMemory.{memory_alone}
use Rattle.cedar_conform.specs.Exactness.{DenotedRequestsHaveNoFault}
use Rattle.cedar_conform.specs.Private.Answers.{IsAnswer, IsLineAnswer, IsNoJson, IsNoObjectFault}
use Rattle.cedar_conform.specs.Requests.{Denotes, Reads, HasFault, HasUidsFault, HasContextFault, IsShapeless, LineDenotes, LineHasFault, Names, context_of, is_request_key}
use Rattle.cedar_conform.proofs.EnvironmentSources.{one_context, action_declared, principal_declared, resource_declared}

-- ---- the uids of a request

-- of one request it is not both known that its types have its uids, and that they do not
pub none_unlisted : (s : SchemaTree) (q r : Request) → request_listed s q ≡ true → q ≡ r → request_listed s r ≡ false → ⊥
none_unlisted s q r listed same fails = let both : true ≡ false = sym listed ∙ ap (request_listed s) same ∙ fails in cc

-- what is known of a request that was read, once it was looked for its uids
abbrev pub IsLooked : SchemaTree → Request → Result Request ConformFault → Type 0
IsLooked s q result = MatchResult result (λ r. (r ≡ q) × (request_listed s q ≡ true)) (λ f. (f ≡ UnknownType) × (request_listed s q ≡ false))

pub looked_answer : (s : SchemaTree) (d : Data) (q : Request) (result : Result Request ConformFault) → IsLooked s q result → Reads s d q → IsAnswer s d result
looked_answer s d q (Ok r) looked read = subst (Denotes s d) (sym looked.0) (record { read = read; uids = looked.1 })
looked_answer s d q (Err f) looked read = λ other. inr (inr (inr (looked.0, (q, read, looked.1))))

pub looked_placed : (s : SchemaTree) (q : Request) (result : Result Request ConformFault) (P : Request → Type 0) → IsLooked s q result → P q → IfOk result P
looked_placed s q (Ok r) P looked h = subst P (sym looked.0) h
looked_placed s q (Err f) P looked h = tt

-- ---- what a JSON denotes fits

pub denoted_fits : ReadValuesBelong → (s : SchemaTree) (d : Data) (q : Request) → Denotes s d q → Fits s q
denoted_fits belong s d q h = (
  record { action = q.action; principal = q.principal.ty; resource = q.resource.ty; context = h.read.context_type },
  record {
    listed = h.read.applies;
    principal = refl;
    action = refl;
    resource = refl;
    context = subst (Member h.read.context_type) (sym h.read.context) (belong h.read.context_type (context_of d) h.read.fine);
    uids = h.uids;
  },
)

pub denoted_line_fits : ReadValuesBelong → (s : SchemaTree) (line : List ℕ) (q : Request) → LineDenotes s line q → Fits s q
denoted_line_fits belong s line q h = at (json_of line) h
  where
    at : (o : Option Data) → MatchOption o ⊥ (λ d. Denotes s d q) → Fits s q
    at None h = absurd h
    at (Some d) h = denoted_fits belong s d q h

-- ---- what the answer to a line says

pub line_denotes : (s : SchemaTree) (line : List ℕ) (result : Result Request ConformFault) → IsLineAnswer s line result → IfOk result (LineDenotes s line)
line_denotes s line (Ok q) h = h
line_denotes s line (Err f) h = tt

pub line_fits : ReadValuesBelong → (s : SchemaTree) (line : List ℕ) (result : Result Request ConformFault) → IsLineAnswer s line result → IfOk result (Fits s)
line_fits belong s line (Ok q) h = denoted_line_fits belong s line q h
line_fits belong s line (Err f) h = tt

pub line_refused : (s : SchemaTree) (line : List ℕ) (result : Result Request ConformFault) → IsLineAnswer s line result → IfErr result (λ e. e ≢ OutOfMemory → LineHasFault s line e)
line_refused s line (Ok q) h = tt
line_refused s line (Err f) h = h

pub answer_of_members : (s : SchemaTree) (line : List ℕ) (mo : Option Members) (result : Result Request ConformFault) → json_of line ≡ option_map object mo
    → MatchOption mo (IsNoJson result) (λ ms. IsAnswer s (object ms) result) → IsLineAnswer s line result
answer_of_members s line None (Ok q) is h = absurd h
answer_of_members s line None (Err f) is h = λ other. subst (λ o. MatchOption o (f ≡ Json) (λ x. HasFault s x f)) (sym is) (h other)
answer_of_members s line (Some ms) (Ok q) is h = subst (λ o. MatchOption o ⊥ (λ x. Denotes s x q)) (sym is) h
answer_of_members s line (Some ms) (Err f) is h = λ other. subst (λ o. MatchOption o (f ≡ Json) (λ x. HasFault s x f)) (sym is) (h other)

pub no_keys : (d : Data) (o : Option Members) → as_object d ≡ o → o ≡ None → unwrap_or (option_map (are_only is_request_key) o) false ≡ false
no_keys d o e n = ap (λ x. unwrap_or (option_map (are_only is_request_key) x) false) n

pub no_object : (s : SchemaTree) (line : List ℕ) (f : ConformFault) → IsNoObjectFault line f → LineHasFault s line f
no_object s line f h = at (json_of line) h
  where
    at : (o : Option Data) → MatchOption o (f ≡ Json) (λ d. (f ≡ Shape) × (as_object d ≡ None)) → MatchOption o (f ≡ Json) (λ d. HasFault s d f)
    at None h = h
    at (Some d) h = inl (h.0, inl (no_keys d (as_object d) refl h.1))

pub memory_says_nothing : (s : SchemaTree) (mo : Option Members) → MatchOption mo (IsNoJson (Err OutOfMemory)) (λ ms. IsAnswer s (object ms) (Err OutOfMemory))
memory_says_nothing s None = λ other. absurd (other refl)
memory_says_nothing s (Some ms) = λ other. absurd (other refl)

-- ---- there is but one

pub one_uid_at : WritesOneUid → (k : List ℕ) (d : Data) (u v : Uid) → UidAt k d u → UidAt k d v → u ≡ v
one_uid_at one k d u v h g = at (get k d) h g
  where
    at : (o : Option Data) → MatchOption o ⊥ (λ found. WritesUid found u) → MatchOption o ⊥ (λ found. WritesUid found v) → u ≡ v
    at None h g = absurd h
    at (Some found) h g = one found u v h g

pairs_back : (ps : List (List ℕ × Datum)) → pairs_of (fields_of ps) ≡ ps
pairs_back [] = refl
pairs_back (p ∷ ps) = ap (λ (xs : List (List ℕ × Datum)). p ∷ xs) (pairs_back ps)

abbrev fields_in : Datum → List (List ℕ × Datum)
fields_in (record_of fs) = pairs_of fs
fields_in _ = []

pub one_record : (ps qs : List (List ℕ × Datum)) → record_of (fields_of ps) ≡ record_of (fields_of qs) → ps ≡ qs
one_record ps qs e = sym (pairs_back ps) ∙ ap fields_in e ∙ pairs_back qs

module _ (one : WritesOneUid) (s : SchemaTree) (up : IsStrictlySortedBy uid_cmp (keys_of s.actions)) where
  pub same_reading : (d : Data) (q r : Request) → Reads s d q → Reads s d r → q ≡ r
  same_reading d q r h g =
      let p = one_uid_at one (codes "principal") d q.principal r.principal h.names.principal_at g.names.principal_at in
      let a = one_uid_at one (codes "action") d q.action r.action h.names.action_at g.names.action_at in
      let b = one_uid_at one (codes "resource") d q.resource r.resource h.names.resource_at g.names.resource_at in
      let t = one_context s.actions up _ _ h.applies g.applies a in
      let context = one_record q.context r.context (h.context ∙ ap (λ (x : TypeTree). (value_read x (context_of d)).value) t ∙ sym g.context) in
      λ i. record { principal = p i; action = a i; resource = b i; context = context i }

  pub same_request : (d : Data) (q r : Request) → Denotes s d q → Denotes s d r → q ≡ r
  same_request d q r h g = same_reading d q r h.read g.read

pub one_line_request : WritesOneUid → (s : SchemaTree) (line : List ℕ) (q r : Request) → IsListedInOrder s → LineDenotes s line q → LineDenotes s line r → q ≡ r
one_line_request one s line q r up h g = at (json_of line) h g
  where
    at : (o : Option Data) → MatchOption o ⊥ (λ d. Denotes s d q) → MatchOption o ⊥ (λ d. Denotes s d r) → q ≡ r
    at None h g = absurd h
    at (Some d) h g = same_request one s up.1 d q r h g

module _ (one : WritesOneUid) (s : SchemaTree) (up : IsStrictlySortedBy uid_cmp (keys_of s.actions)) (declared : AreListsDeclared s) (d : Data) where
  no_uids_fault : (q : Request) → Reads s d q → (f : ConformFault) → HasUidsFault s q.principal q.action q.resource f → ⊥
  no_uids_fault q h UnknownType (inl none) = principal_declared s declared _ h.applies none
  no_uids_fault q h UnknownType (inr none) = resource_declared s declared _ h.applies none
  no_uids_fault q h NoSuchAction none = none (action_declared s _ h.applies)
  no_uids_fault q h ActionDoesNotApply none = none.1 h.context_type h.applies
  no_uids_fault q h _ none = none

  named : (q : Request) → Reads s d q → (p a r : Uid) → Names d p a r → (f : ConformFault) → HasUidsFault s p a r f → HasUidsFault s q.principal q.action q.resource f
  named q h p a r names f fault =
      let pe = one_uid_at one (codes "principal") d p q.principal names.principal_at h.names.principal_at in
      let ae = one_uid_at one (codes "action") d a q.action names.action_at h.names.action_at in
      let re = one_uid_at one (codes "resource") d r q.resource names.resource_at h.names.resource_at in
      subst (λ (x : Uid). HasUidsFault s q.principal q.action x f) re (subst (λ (x : Uid). HasUidsFault s q.principal x r f) ae (subst (λ (x : Uid). HasUidsFault s x a r f) pe fault))

  no_shape_fault : (q : Request) → Reads s d q → IsShapeless d → ⊥
  no_shape_fault q h (inl keys) = let both : true ≡ false = sym h.keys ∙ keys in cc
  no_shape_fault q h (inr (inl lacks)) = lacks q.principal h.names.principal_at
  no_shape_fault q h (inr (inr (inl lacks))) = lacks q.action h.names.action_at
  no_shape_fault q h (inr (inr (inr lacks))) = lacks q.resource h.names.resource_at

  no_context_fault : (q : Request) → Reads s d q → (f : ConformFault) → HasContextFault s d f → ⊥
  no_context_fault q h f fault =
      let t = one_context s.actions up _ _ h.applies fault.applies (one_uid_at one (codes "action") d q.action fault.action h.names.action_at fault.names.action_at) in
      let none = ap (λ (x : TypeTree). (value_read x (context_of d)).faults) (sym t) ∙ h.fine in
      nowhere f (subst (λ (fs : List ConformFault). Contains fs f) none fault.broken)

  pub no_fault : (q : Request) → Denotes s d q → (f : ConformFault) → HasFault s d f → ⊥
  no_fault q h f (inl shape) = no_shape_fault q h.read shape.1
  no_fault q h f (inr (inl (p, a, r, names, fault))) = no_uids_fault q h.read f (named q h.read p a r names f fault)
  no_fault q h f (inr (inr (inl fault))) = no_context_fault q h.read f fault
  no_fault q h f (inr (inr (inr unlisted))) = none_unlisted s q unlisted.1.0 h.uids (same_reading one s up d q unlisted.1.0 h.read unlisted.1.1) unlisted.1.2

  only_answer : (q : Request) → Denotes s d q → (result : Result Request ConformFault) → IsAnswer s d result → MatchResult result (λ found. found ≡ q) (λ e. e ≡ OutOfMemory)
  only_answer q h (Ok found) g = same_request one s up d found q g h
  only_answer q h (Err f) g = memory_alone f (λ other. no_fault q h f (g other))

pub no_line_fault : WritesOneUid → DenotedRequestsHaveNoFault
no_line_fault one s line q f up declared h fault = at (json_of line) h fault
  where
    at : (o : Option Data) → MatchOption o ⊥ (λ d. Denotes s d q) → MatchOption o (f ≡ Json) (λ d. HasFault s d f) → ⊥
    at None h fault = h
    at (Some d) h fault = no_fault one s up.1 declared d q h f fault

pub only_line : WritesOneUid → (s : SchemaTree) → IsStrictlySortedBy uid_cmp (keys_of s.actions) → AreListsDeclared s → (line : List ℕ) (result : Result Request ConformFault) → IsLineAnswer s line result
    → (q : Request) → LineDenotes s line q → MatchResult result (λ found. found ≡ q) (λ e. e ≡ OutOfMemory)
only_line one s up declared line result h q g = at (json_of line) h g
  where
    at : (o : Option Data) → MatchResult result (λ r. MatchOption o ⊥ (λ d. Denotes s d r)) (λ f. f ≢ OutOfMemory → MatchOption o (f ≡ Json) (λ d. HasFault s d f)) → MatchOption o ⊥ (λ d. Denotes s d q)
        → MatchResult result (λ found. found ≡ q) (λ e. e ≡ OutOfMemory)
    at None h g = absurd g
    at (Some d) h g = only_answer one s up declared d q g result h
