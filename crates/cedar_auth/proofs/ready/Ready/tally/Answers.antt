use Rattle.std.proofs.Common.{◌≡◌, OnOk, subst, sym}
use Rattle.cedar_value.specs.World.{World}
use Rattle.cedar_schema_spec.specs.Conformance.{Conforms}
use Rattle.cedar_auth.specs.Private.Tally.{tally_of}
use Rattle.cedar_auth.proofs.ready.Ready.tally.Goals as goal

pub tally_over-requires : goal.tally_over-requires
tally_over-requires c = record { fits = c.requires; conforms = subst (Conforms c.args.self.now.schema) (sym c.store.ensures) c.premises.ensures.conforms }

pub returns : goal.returns
returns c =
    let ready = c.args.self.now in
    subst (λ (w : World). OnOk c.tally_over.result (c.tally_over.new.tally ≡ tally_of c.args.request.now w ready.policies.policies)) c.store.ensures c.tally_over.ensures
