-- Which request parts denote, and that there is but one.
use Rattle.std.proofs.Common.{◌≡◌, ◌⊎◌, inl, inr, List, Contains, Option, Some, None, Result, Ok, Err, refl, sym, ap, subst, ◌∙◌}
use Rattle.std.specs.Prelude.{◌≢◌, MatchResult}
use Rattle.std.specs.List.Sorted.{IsStrictlySortedBy}
use Rattle.std.specs.Map.{keys_of}
use Rattle.serde_json.specs.Data.{Data}
use Rattle.base_reach.proofs.Listed.{nowhere}
use Rattle.cedar_value.specs.Order.{uid_cmp}
use Rattle.cedar_value.specs.declared.request.Request.{Request}
use Rattle.cedar_value.specs.declared.uid.Uid.{Uid}
use Rattle.cedar_schema_types.specs.Types.{TypeTree}
use Rattle.cedar_schema_spec.specs.SchemaTree.{SchemaTree, HasEnvironment}
use Rattle.cedar_schema_spec.specs.WellFormed.{AreListsDeclared}
use Rattle.cedar_conform_values.specs.Values.{value_read}
use Rattle.cedar_conform_values.specs.declared.conform_fault.ConformFault.{ConformFault}
use Rattle.cedar_conform_values.specs.declared.conform_fault.ConformFault.TheVariants.{OutOfMemory, Json, UnknownType, NoSuchAction, ActionDoesNotApply}
use Rattle.cedar_conform_entities.proofs.OnlyMemory.{memory_alone}
use Rattle.cedar_conform.specs.declared.request.RequestUids.{RequestUids}
use Rattle.cedar_conform.specs.Exactness.{DenotedPartsHaveNoFault}
use Rattle.cedar_conform.specs.Parts.{HasPartsContextFault, PartsDenote, PartsHaveFault, PartsRead, PartsTree, context_json}
use Rattle.cedar_conform.specs.Private.PartsAnswers.{AreUidsOf}
use Rattle.cedar_conform.specs.Requests.{HasUidsFault}
use Rattle.cedar_conform.proofs.EnvironmentSources.{one_context, action_declared, principal_declared, resource_declared}
use Rattle.cedar_conform.proofs.RequestLemmas.{IsLooked, none_unlisted, one_record}

-- ---- what a fault of the uids or of the context is

module _ (s : SchemaTree) (parts : PartsTree) (u : RequestUids) (are : AreUidsOf parts u) where
  pub uids_fault : (f : ConformFault) → HasUidsFault s u.principal u.action u.resource f → PartsHaveFault s parts f
  uids_fault f fault =
      inr (inl (subst (λ (x : Uid). HasUidsFault s parts.principal parts.action x f) are.resource
      (subst (λ (x : Uid). HasUidsFault s parts.principal x u.resource f) are.action (subst (λ (x : Uid). HasUidsFault s x u.action u.resource f) are.principal fault))))

  pub applies_here : (t : TypeTree) → HasEnvironment s.actions u.action u.principal.ty u.resource.ty t → HasEnvironment s.actions parts.action parts.principal.ty parts.resource.ty t
  applies_here t listed =
      subst (λ (x : Uid). HasEnvironment s.actions parts.action parts.principal.ty x.ty t) are.resource
      (subst (λ (x : Uid). HasEnvironment s.actions x parts.principal.ty u.resource.ty t) are.action (subst (λ (x : Uid). HasEnvironment s.actions u.action x.ty u.resource.ty t) are.principal listed))

  pub context_fault : (t : TypeTree) → HasEnvironment s.actions u.action u.principal.ty u.resource.ty t → (f : ConformFault)
      → ((f ≡ Json) × (context_json parts.context ≡ None)) ⊎ ((d : Data) × (context_json parts.context ≡ Some d) × Contains (value_read t d).faults f) → PartsHaveFault s parts f
  context_fault t listed f (inl none) = inr (inr (inl none))
  context_fault t listed f (inr (d, is, broken)) = inr (inr (inr (inl (record { json = d; is_json = is; context_type = t; applies = applies_here t listed; broken = broken }))))

-- ---- the uids of a request that was read

pub looked_parts : (s : SchemaTree) (parts : PartsTree) (q : Request) (result : Result Request ConformFault) → IsLooked s q result → PartsRead s parts q
    → MatchResult result (PartsDenote s parts) (λ e. e ≢ OutOfMemory → PartsHaveFault s parts e)
looked_parts s parts q (Ok r) looked read = subst (PartsDenote s parts) (sym looked.0) (record { read = read; uids = looked.1 })
looked_parts s parts q (Err f) looked read = λ other. inr (inr (inr (inr (looked.0, (q, read, looked.1)))))

-- ---- there is but one request

some_back : {A : Type 0} → (x y : A) → Some x ≡ Some y → x ≡ y
some_back x y e = ap (λ (o : Option _). content o x) e
  where
    content : {A : Type 0} → Option A → A → A
    content None d = d
    content (Some z) d = z

module _ (s : SchemaTree) (up : IsStrictlySortedBy uid_cmp (keys_of s.actions)) (declared : AreListsDeclared s) (parts : PartsTree) where
  same_reading : (q r : Request) → PartsRead s parts q → PartsRead s parts r → q ≡ r
  same_reading q r h g =
      let p = h.principal ∙ sym g.principal in
      let a = h.action ∙ sym g.action in
      let b = h.resource ∙ sym g.resource in
      let t = one_context s.actions up _ _ h.applies g.applies refl in
      let d = some_back h.json g.json (sym h.is_json ∙ g.is_json) in
      let context = one_record q.context r.context (h.context ∙ ap (λ (x : TypeTree). (value_read x h.json).value) t ∙ ap (λ (x : Data). (value_read g.context_type x).value) d ∙ sym g.context) in
      λ i. record { principal = p i; action = a i; resource = b i; context = context i }

  no_uids_fault : (q : Request) → PartsRead s parts q → (f : ConformFault) → HasUidsFault s parts.principal parts.action parts.resource f → ⊥
  no_uids_fault q h UnknownType (inl none) = principal_declared s declared _ h.applies none
  no_uids_fault q h UnknownType (inr none) = resource_declared s declared _ h.applies none
  no_uids_fault q h NoSuchAction none = none (action_declared s _ h.applies)
  no_uids_fault q h ActionDoesNotApply none = none.1 h.context_type h.applies
  no_uids_fault q h _ none = none

  no_context_fault : (q : Request) → PartsRead s parts q → (f : ConformFault) → HasPartsContextFault s parts f → ⊥
  no_context_fault q h f fault =
      let t = one_context s.actions up _ _ h.applies fault.applies refl in
      let d = some_back h.json fault.json (sym h.is_json ∙ fault.is_json) in
      let none = ap (λ (x : Data). (value_read fault.context_type x).faults) (sym d) ∙ ap (λ (x : TypeTree). (value_read x h.json).faults) (sym t) ∙ h.fine in
      nowhere f (subst (λ (fs : List ConformFault). Contains fs f) none fault.broken)

  no_fault : (q : Request) → PartsDenote s parts q → (f : ConformFault) → PartsHaveFault s parts f → ⊥
  no_fault q h f (inl shape) = shape.1 h.read.named
  no_fault q h f (inr (inl fault)) = no_uids_fault q h.read f fault
  no_fault q h f (inr (inr (inl json))) = let both : Some h.read.json ≡ None = sym h.read.is_json ∙ json.1 in cc
  no_fault q h f (inr (inr (inr (inl fault)))) = no_context_fault q h.read f fault
  no_fault q h f (inr (inr (inr (inr unlisted)))) = none_unlisted s q unlisted.1.0 h.uids (same_reading q unlisted.1.0 h.read unlisted.1.1) unlisted.1.2

  pub only_parts : (result : Result Request ConformFault) → MatchResult result (PartsDenote s parts) (λ e. e ≢ OutOfMemory → PartsHaveFault s parts e)
      → (q : Request) → PartsDenote s parts q → MatchResult result (λ found. found ≡ q) (λ e. e ≡ OutOfMemory)
  only_parts (Ok found) g q h = same_reading found q g.read h.read
  only_parts (Err f) g q h = memory_alone f (λ other. no_fault q h f (g other))

pub no_parts_fault : DenotedPartsHaveNoFault
no_parts_fault s parts q f up declared h fault = no_fault s up.1 declared parts q h f fault
