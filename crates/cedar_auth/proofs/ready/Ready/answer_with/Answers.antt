use Rattle.std.proofs.Common.{Contains, sym, ap, subst, ◌∙◌}
use Rattle.cedar_ast.specs.Response.{ResponseTree}
use Rattle.cedar_value.specs.World.{World}
use Rattle.cedar_schema_spec.specs.Conformance.{Conforms}
use Rattle.cedar_schema_spec.specs.SchemaTree.{SchemaTree}
use Rattle.cedar_conform_entities.specs.Changes.{BytesDenoteChanged}
use Rattle.cedar_auth_spec.specs.Validation.{ValidatedTree}
use Rattle.cedar_auth.specs.Private.Tally.{response_by}
use Rattle.cedar_auth.proofs.Responses.{response_by-tally}
use Rattle.cedar_auth.proofs.ready.Ready.answer_with.Goals as goal

pub tally_over-requires : goal.tally_over-requires
tally_over-requires c =
    let schema = c.schema.ensures.value ∙ ap (λ (v : ValidatedTree). v.schema) c.validated.ensures in
    let before = subst (λ (w : World). Conforms c.schema.result.now w) (sym c.store.ensures) (subst (λ (s : SchemaTree). Conforms s c.args.self.now.world) (sym schema) c.premises.ensures.conforms) in
    record { fits = c.requires; conforms = subst (λ (s : SchemaTree). Conforms s c.in_ok-store.store) schema (c.in_ok-store.ensures.conforms before) }

pub returns-clause-ok : goal.returns-clause-ok
returns-clause-ok c =
    let schema = c.schema.ensures.value ∙ ap (λ (v : ValidatedTree). v.schema) c.validated.ensures in
    let denoted = subst (λ (w : World). BytesDenoteChanged c.args.self.now.schema c.args.changes.now w c.in_ok-store.store) c.store.ensures (subst (λ (s : SchemaTree). BytesDenoteChanged s c.args.changes.now c.store.result.now c.in_ok-store.store) schema c.in_ok-store.ensures.denotes) in
    (c.in_ok-store.store, denoted, c.into_response.ensures ∙ ap response_by c.in_ok-tally_over.ensures ∙ response_by-tally c.args.request.now c.in_ok-store.store c.args.self.now.policies.policies)

pub returns-clause-errors : goal.returns-clause-errors
returns-clause-errors c =
    let schema = c.schema.ensures.value ∙ ap (λ (v : ValidatedTree). v.schema) c.validated.ensures in
    let denoted = subst (λ (w : World). BytesDenoteChanged c.args.self.now.schema c.args.changes.now w c.in_ok-store.store) c.store.ensures (subst (λ (s : SchemaTree). BytesDenoteChanged s c.args.changes.now c.store.result.now c.in_ok-store.store) schema c.in_ok-store.ensures.denotes) in
    let told = c.into_response.ensures ∙ ap response_by c.in_ok-tally_over.ensures ∙ response_by-tally c.args.request.now c.in_ok-store.store c.args.self.now.policies.policies in
    λ x m. (c.changes_are_answered_soundly.ensures c.args.changes.now c.in_ok-store.store c.args.request.now denoted c.requires).errors x (subst (λ (r : ResponseTree). Contains r.erring x) told m)

pub returns-in_err-store-clause-sound : goal.returns-in_err-store-clause-sound
returns-in_err-store-clause-sound c = λ w h. c.changes_are_answered_soundly.ensures c.args.changes.now w c.args.request.now h c.requires

pub returns-in_err-tally_over-clause-sound : goal.returns-in_err-tally_over-clause-sound
returns-in_err-tally_over-clause-sound c = λ w h. c.changes_are_answered_soundly.ensures c.args.changes.now w c.args.request.now h c.requires

pub returns-clause-sound : goal.returns-clause-sound
returns-clause-sound c = λ w h. c.changes_are_answered_soundly.ensures c.args.changes.now w c.args.request.now h c.requires
