-- When a request fits.
use Rattle.std.proofs.Common.{◌≡◌, Contains, Bool, true, false, refl, sym, subst, ◌∙◌}
use Rattle.std.specs.Prelude.{◌↔◌, IsTrue}
use Rattle.std.specs.List.Sorted.{IsStrictlySortedBy}
use Rattle.std.specs.Map.{keys_of}
use Rattle.std.proofs.lemmas.Bool.{false≢true}
use Rattle.cedar_value.specs.Datum.{record_of, fields_of}
use Rattle.cedar_value.specs.Order.{uid_cmp}
use Rattle.cedar_value.specs.declared.request.Request.{Request}
use Rattle.cedar_schema_types.specs.Membership.{Member}
use Rattle.cedar_schema_types.specs.Types.{TypeTree}
use Rattle.cedar_schema_spec.specs.declared.environment.Environment.{Environment}
use Rattle.cedar_schema_spec.specs.Conformance.{Fits, FitsIn}
use Rattle.cedar_schema_spec.specs.Enumerated.{request_listed}
use Rattle.cedar_schema_spec.specs.SchemaTree.{SchemaTree, environments_of, HasEnvironment, HasNoEnvironment}
use Rattle.cedar_conform.proofs.EnvironmentSources.{one_context}

module _ (s : SchemaTree) (q : Request) where
  -- where the action applies, by the one context type and by the uids
  module _ (up : IsStrictlySortedBy uid_cmp (keys_of s.actions)) (t : TypeTree) (listed : HasEnvironment s.actions q.action q.principal.ty q.resource.ty t) (r : Bool) (told : IsTrue r ↔ Member t (record_of (fields_of q.context))) where
    pub fits_here : r ≡ true → (b : Bool) → b ≡ request_listed s q → IsTrue b ↔ Fits s q
    fits_here member b is = (
      λ h. (
        record { action = q.action; principal = q.principal.ty; resource = q.resource.ty; context = t },
        record { listed = listed; principal = refl; action = refl; resource = refl; context = told.0 member; uids = sym is ∙ h },
      ),
      λ fit. is ∙ fit.1.uids,
    )

    pub no_member_fits : r ≡ false → IsTrue r ↔ Fits s q
    no_member_fits none = (
      λ h. absurd (false≢true (sym none ∙ h)),
      λ fit. told.1 (subst (λ (x : TypeTree). Member x (record_of (fields_of q.context))) (one_context s.actions up fit.0 _ fit.1.listed listed (sym fit.1.action)) fit.1.context),
    )

  of_the_request : (e : Environment) → FitsIn s e q → e ≡ record { action = q.action; principal = q.principal.ty; resource = q.resource.ty; context = e.context }
  of_the_request e fit = λ i. record { action = (sym fit.action) i; principal = (sym fit.principal) i; resource = (sym fit.resource) i; context = e.context }

  -- and nowhere where it does not
  pub fits_not : HasNoEnvironment s.actions q.action q.principal.ty q.resource.ty → IsTrue false ↔ Fits s q
  fits_not none = (
    λ h. cc,
    λ fit. absurd (none fit.0.context (subst (λ (e : Environment). Contains (environments_of s.actions) e) (of_the_request fit.0 fit.1) fit.1.listed)),
  )
