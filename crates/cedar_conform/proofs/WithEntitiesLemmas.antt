-- Which request and which world a line with entities denotes.
use Rattle.std.proofs.Common.{◌≡◌, ◌≢◌, ℕ, inl, inr, List, Option, Some, None, Result, Ok, Err, refl, sym, ap, subst, ◌∙◌}
use Rattle.std.specs.Prelude.{◌↔◌, codes, IfErr, IfOk, MatchOption, MatchResult, option_map, unwrap_or}
use Rattle.serde_json.specs.Data.{Data, null, boolean, number, string, array, Members, object}
use Rattle.serde_json.specs.Find.{as_object, get}
use Rattle.base_json.specs.JsonTree.{json_of}
use Rattle.cedar_value.specs.World.{World, entry_of}
use Rattle.cedar_value.specs.declared.request.Request.{Request}
use Rattle.cedar_schema_spec.specs.Conformance.{Conforms, Fits}
use Rattle.cedar_schema_spec.specs.SchemaTree.{SchemaTree}
use Rattle.cedar_schema_spec.specs.WellFormed.{AreListsDeclared, AreParentsDeclared, AreTypesApart, IsHierarchy, IsListedInOrder}
use Rattle.cedar_conform_values.specs.Belonging.{ReadValuesBelong}
use Rattle.cedar_conform_values.specs.WrittenUids.{WritesOneUid}
use Rattle.cedar_conform_values.specs.declared.conform_fault.ConformFault.{ConformFault}
use Rattle.cedar_conform_values.specs.declared.conform_fault.ConformFault.TheVariants.{OutOfMemory, Json, Shape}
use Rattle.cedar_conform_entities.specs.Changes.{ChangedWorldsConform, DenotesChangedWorld, HasChangesFault, upserts_only}
use Rattle.cedar_conform_entities.specs.Changes as changes
use Rattle.cedar_conform_entities.proofs.ChangesExact.{changed_same, fine_changes}
use Rattle.cedar_conform_entities.proofs.OnlyMemory.{memory_alone}
use Rattle.cedar_store.specs.Changes.{HaveSameEntities}
use Rattle.cedar_conform.specs.Private.Answers.{IsAnswer, IsNoObjectFault}
use Rattle.cedar_conform.specs.Private.WithEntities.{IsAnswerWith, IsLineAnswerWith, IsNoJsonWith}
use Rattle.cedar_conform.specs.Requests.{Denotes, HasFault}
use Rattle.cedar_conform.specs.RequestsWithEntities.{DenotesWithEntities, HasFaultWithEntities, LineDenotesWithEntities, LineHasFaultWithEntities, OneRequestWithEntities, PlainLinesMeanTheSame, RequestsWithEntitiesFit, RequestsWithEntitiesHaveNoFault, WorldsForRequestsConform, without}
use Rattle.cedar_conform.proofs.RequestLemmas.{denoted_fits, no_fault, no_keys, same_request}
use Rattle.cedar_conform.proofs.WithoutKey.{without_none}

abbrev key : List ℕ
key = codes "entities"

-- ---- the request fits, and the world conforms

pub with_entities_fit : ReadValuesBelong → RequestsWithEntitiesFit
with_entities_fit belong s old line q new h = at (json_of line) h
  where
    at : (o : Option Data) → MatchOption o ⊥ (λ d. DenotesWithEntities s old d q new) → Fits s q
    at None h = absurd h
    at (Some d) h = denoted_fits belong s (without key d) q h.0

world_by : ChangedWorldsConform → (s : SchemaTree) (old new : World) → AreParentsDeclared s → AreTypesApart s → IsHierarchy s → Conforms s old
    → (o : Option Data) → MatchOption o (new ≡ old) (λ entries. DenotesChangedWorld s (upserts_only entries) old new) → Conforms s new
world_by law s old new declared apart hierarchy conforms None h = subst (Conforms s) (sym h) conforms
world_by law s old new declared apart hierarchy conforms (Some entries) h = law s (upserts_only entries) old new declared apart hierarchy conforms h

pub with_entities_conform : ChangedWorldsConform → WorldsForRequestsConform
with_entities_conform law s old line q new declared apart hierarchy conforms h = at (json_of line) h
  where
    at : (o : Option Data) → MatchOption o ⊥ (λ d. DenotesWithEntities s old d q new) → Conforms s new
    at None h = absurd h
    at (Some d) h = world_by law s old new declared apart hierarchy conforms (get key d) h.1

-- ---- there is one request, its worlds have the same entities, and there is no fault then

module _ (s : SchemaTree) (old : World) where
  worlds_same : (v w : World) (o : Option Data) → MatchOption o (v ≡ old) (λ entries. DenotesChangedWorld s (upserts_only entries) old v)
      → MatchOption o (w ≡ old) (λ entries. DenotesChangedWorld s (upserts_only entries) old w) → HaveSameEntities v w
  worlds_same v w None h k = λ u. ap (λ (x : World). entry_of x u) (h ∙ sym k)
  worlds_same v w (Some entries) h k = changed_same s (upserts_only entries) old v w h k

  no_entities_fault : (new : World) (f : ConformFault) (o : Option Data) → MatchOption o (new ≡ old) (λ entries. DenotesChangedWorld s (upserts_only entries) old new)
      → MatchOption o ⊥ (λ entries. HasChangesFault s old (upserts_only entries) f) → ⊥
  no_entities_fault new f None h fault = fault
  no_entities_fault new f (Some entries) h fault = fine_changes s (upserts_only entries) old new h f fault

pub one_request_with_entities : WritesOneUid → OneRequestWithEntities
one_request_with_entities one s old line q r v w up h k = at (json_of line) h k
  where
    at : (o : Option Data) → MatchOption o ⊥ (λ d. DenotesWithEntities s old d q v) → MatchOption o ⊥ (λ d. DenotesWithEntities s old d r w) → (q ≡ r) × HaveSameEntities v w
    at None h k = absurd h
    at (Some d) h k = (same_request one s up.1 (without key d) q r h.0 k.0, worlds_same s old v w (get key d) h.1 k.1)

pub with_entities_have_no_fault : WritesOneUid → RequestsWithEntitiesHaveNoFault
with_entities_have_no_fault one s old line q new f up declared h fault = at (json_of line) h fault
  where
    by : (d : Data) → DenotesWithEntities s old d q new → HasFaultWithEntities s old d f → ⊥
    by d h (inl request) = no_fault one s up.1 declared (without key d) q h.0 f request
    by d h (inr entities) = no_entities_fault s old new f (get key d) h.1 entities

    at : (o : Option Data) → MatchOption o ⊥ (λ d. DenotesWithEntities s old d q new) → MatchOption o (f ≡ Json) (λ d. HasFaultWithEntities s old d f) → ⊥
    at None h fault = h
    at (Some d) h fault = by d h fault

-- ---- a line that brings nothing

without_absent : (d : Data) → get key d ≡ None → without key d ≡ d
without_absent null e = refl
without_absent (boolean b) e = refl
without_absent (number n) e = refl
without_absent (string x) e = refl
without_absent (array ds) e = refl
without_absent (object ms) e = ap object (without_none key ms e)

module _ (s : SchemaTree) (old : World) (line : List ℕ) where
  same_denoted : (q : Request) (new : World) (o : Option Data) → MatchOption o (Unit {0}) (λ d. get key d ≡ None)
      → MatchOption o ⊥ (λ d. DenotesWithEntities s old d q new) ↔ (MatchOption o ⊥ (λ d. Denotes s d q) × (new ≡ old))
  same_denoted q new None none = (λ h. absurd h, λ h. h.0)
  same_denoted q new (Some d) none = (
    λ h. (subst (λ (x : Data). Denotes s x q) (without_absent d none) h.0, subst (λ (o : Option Data). MatchOption o (new ≡ old) (λ entries. DenotesChangedWorld s (upserts_only entries) old new)) none h.1),
    λ h. (subst (λ (x : Data). Denotes s x q) (sym (without_absent d none)) h.0, subst (λ (o : Option Data). MatchOption o (new ≡ old) (λ entries. DenotesChangedWorld s (upserts_only entries) old new)) (sym none) h.1),
  )

  fault_before : (d : Data) (f : ConformFault) → get key d ≡ None → HasFaultWithEntities s old d f → HasFault s d f
  fault_before d f none (inl h) = subst (λ (x : Data). HasFault s x f) (without_absent d none) h
  fault_before d f none (inr h) = absurd (subst (λ (o : Option Data). MatchOption o ⊥ (λ entries. HasChangesFault s old (upserts_only entries) f)) none h)

  same_faults : (f : ConformFault) (o : Option Data) → MatchOption o (Unit {0}) (λ d. get key d ≡ None)
      → MatchOption o (f ≡ Json) (λ d. HasFaultWithEntities s old d f) ↔ MatchOption o (f ≡ Json) (λ d. HasFault s d f)
  same_faults f None none = (λ h. h, λ h. h)
  same_faults f (Some d) none = (fault_before d f none, λ h. inl (subst (λ (x : Data). HasFault s x f) (sym (without_absent d none)) h))

pub plain_lines : PlainLinesMeanTheSame
plain_lines = record {
  denote = λ s old line q new none. same_denoted s old line q new (json_of line) none;
  faults = λ s old line f none. same_faults s old line f (json_of line) none;
}

-- ---- what the answer to a line says

abbrev Read : Type 0
Read = Request × Option World

module _ (s : SchemaTree) (old : World) (line : List ℕ) where
  pub line_denotes : (result : Result Read ConformFault) → IsLineAnswerWith s old line result → IfOk result (λ r. LineDenotesWithEntities s old line r.0 (unwrap_or r.1 old))
  line_denotes (Ok r) h = h
  line_denotes (Err f) h = tt

  pub line_fits : RequestsWithEntitiesFit → (result : Result Read ConformFault) → IsLineAnswerWith s old line result → IfOk result (λ r. Fits s r.0)
  line_fits law (Ok r) h = law s old line r.0 (unwrap_or r.1 old) h
  line_fits law (Err f) h = tt

  pub line_conforms : WorldsForRequestsConform → AreParentsDeclared s → AreTypesApart s → IsHierarchy s → (result : Result Read ConformFault) → IsLineAnswerWith s old line result
      → Conforms s old → IfOk result (λ r. Conforms s (unwrap_or r.1 old))
  line_conforms law declared apart hierarchy (Ok r) h conforms = law s old line r.0 (unwrap_or r.1 old) declared apart hierarchy conforms h
  line_conforms law declared apart hierarchy (Err f) h conforms = tt

  pub line_refused : (result : Result Read ConformFault) → IsLineAnswerWith s old line result → IfErr result (λ e. e ≢ OutOfMemory → LineHasFaultWithEntities s old line e)
  line_refused (Ok r) h = tt
  line_refused (Err f) h = h

  pub line_only : OneRequestWithEntities → RequestsWithEntitiesHaveNoFault → IsListedInOrder s → AreListsDeclared s → (result : Result Read ConformFault) → IsLineAnswerWith s old line result
      → (q : Request) (w : World) → LineDenotesWithEntities s old line q w → MatchResult result (λ r. (r.0 ≡ q) × HaveSameEntities (unwrap_or r.1 old) w) (λ e. e ≡ OutOfMemory)
  line_only one none up declared (Ok r) h q w k = one s old line r.0 q (unwrap_or r.1 old) w up h k
  line_only one none up declared (Err f) h q w k = memory_alone f (λ other. none s old line q w f up declared k (h other))

  pub answer_of_members : (mo : Option Members) (result : Result Read ConformFault) → json_of line ≡ option_map object mo
      → MatchOption mo (IsNoJsonWith result) (λ ms. IsAnswerWith s old (object ms) result) → IsLineAnswerWith s old line result
  answer_of_members None (Ok r) is h = absurd h
  answer_of_members None (Err f) is h = λ other. subst (λ o. MatchOption o (f ≡ Json) (λ x. HasFaultWithEntities s old x f)) (sym is) (h other)
  answer_of_members (Some ms) (Ok r) is h = subst (λ o. MatchOption o ⊥ (λ x. DenotesWithEntities s old x r.0 (unwrap_or r.1 old))) (sym is) h
  answer_of_members (Some ms) (Err f) is h = λ other. subst (λ o. MatchOption o (f ≡ Json) (λ x. HasFaultWithEntities s old x f)) (sym is) (h other)

  still_no_object : (d : Data) → as_object d ≡ None → as_object (without key d) ≡ None
  still_no_object null e = refl
  still_no_object (boolean b) e = refl
  still_no_object (number n) e = refl
  still_no_object (string x) e = refl
  still_no_object (array ds) e = refl
  still_no_object (object ms) e = let no : Some ms ≡ None = e in absurd (cc)

  pub no_object : (f : ConformFault) → IsNoObjectFault line f → LineHasFaultWithEntities s old line f
  no_object f h = at (json_of line) h
    where
      at : (o : Option Data) → MatchOption o (f ≡ Json) (λ d. (f ≡ Shape) × (as_object d ≡ None)) → MatchOption o (f ≡ Json) (λ d. HasFaultWithEntities s old d f)
      at None h = h
      at (Some d) h = inl (inl (h.0, inl (no_keys (without key d) (as_object (without key d)) refl (still_no_object d h.1))))

-- ---- entries that are no list

pub string_refused : (s : SchemaTree) (old : World) (x : List ℕ) → HasChangesFault s old (upserts_only (string x)) Shape
string_refused s old x = changes.no_changes (λ entries removed h. let no : None ≡ Some entries = h.upserts in absurd (cc))

pub object_refused : (s : SchemaTree) (old : World) (ms : Members) → HasChangesFault s old (upserts_only (object ms)) Shape
object_refused s old ms = changes.no_changes (λ entries removed h. let no : None ≡ Some entries = h.upserts in absurd (cc))

-- ---- the answers of the calls below

module _ (s : SchemaTree) (old : World) where
  -- the answer to three strings, which bring nothing
  pub plain_answer : (d : Data) (result : Result Request ConformFault) → get key d ≡ None → IsAnswer s (without key d) result
      → MatchResult result (λ q. IsAnswerWith s old d (Ok (q, None))) (λ f. IsAnswerWith s old d (Err f))
  plain_answer d (Ok q) none h = (h, subst (λ (o : Option Data). MatchOption o (old ≡ old) (λ entries. DenotesChangedWorld s (upserts_only entries) old old)) (sym none) refl)
  plain_answer d (Err f) none h = λ other. inl (h other)

  pub fault_of_entries : (d entries : Data) (f : ConformFault) → get key d ≡ Some entries → HasChangesFault s old (upserts_only entries) f → HasFaultWithEntities s old d f
  fault_of_entries d entries f at h = inr (subst (λ (o : Option Data). MatchOption o ⊥ (λ x. HasChangesFault s old (upserts_only x) f)) (sym at) h)

  pub world_of_entries : (d entries : Data) (q : Request) (new : World) → get key d ≡ Some entries → Denotes s (without key d) q → DenotesChangedWorld s (upserts_only entries) old new → DenotesWithEntities s old d q new
  world_of_entries d entries q new at h w = (h, subst (λ (o : Option Data). MatchOption o (new ≡ old) (λ x. DenotesChangedWorld s (upserts_only x) old new)) (sym at) w)

  pub world_of_none : (d : Data) (q : Request) → get key d ≡ None → Denotes s (without key d) q → DenotesWithEntities s old d q old
  world_of_none d q none h = (h, subst (λ (o : Option Data). MatchOption o (old ≡ old) (λ x. DenotesChangedWorld s (upserts_only x) old old)) (sym none) refl)
