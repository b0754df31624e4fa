use Rattle.std.proofs.Common.{subst}
use Rattle.cedar_value.specs.World.{World}
use Rattle.cedar_value.specs.declared.request.Request.{Request}
use Rattle.cedar_schema_spec.specs.Conformance.{Conforms, Fits}
use Rattle.cedar_schema_spec.specs.SchemaTree.{SchemaTree}
use Rattle.cedar_schema_spec.specs.WellFormed.{AreTypesApart}
use Rattle.cedar_auth_spec.specs.Headline.{IsAnsweredSoundlyWith}
use Rattle.cedar_auth_spec.specs.Ready.{ReadyTree}
use Rattle.cedar_auth.proofs.ready.Ready.soundness_over.Goals as goal

pub returns : goal.returns
returns c =
    let i = c.indexed.result.now in
    subst (λ (r : ReadyTree). (w : World) (q : Request) → Conforms r.schema w → Fits r.schema q → IsAnsweredSoundlyWith r.settings r.policies.policies q w) c.indexed.ensures.view
    (λ w q conforms. c.engine_is_sound.ensures.sound_with i.validated.settings i.validated.schema i.validated.policies.policies w q
    (subst (λ (s : SchemaTree). AreTypesApart s) c.schema.ensures.value c.well_formedness.ensures.apart)
    c.schema.ensures.accepted
    conforms)
