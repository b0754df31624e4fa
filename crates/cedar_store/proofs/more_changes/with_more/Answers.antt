use Rattle.std.proofs.Common.{subst}
use Rattle.cedar_value.specs.World.{World}
use Rattle.cedar_store.specs.Private.Called.{IsAfterCall}
use Rattle.cedar_store.proofs.MoreChanges.{after_call}
use Rattle.cedar_store.proofs.more_changes.with_more.Goals as goal

pub returns : goal.returns
returns c =
    let w = c.args.base.now.world in
    subst (λ (es : World). IsAfterCall w c.args.old.now c.args.removed.now es c.in_ok-with_upserts.field-0) c.into_entities.ensures (after_call w c.args.old.now c.in_ok-changes.changes c.in_ok-with_upserts.field-0 c.args.removed.now c.into_entities.result.items c.in_ok-changes.ensures c.in_ok-with_upserts.ensures)
