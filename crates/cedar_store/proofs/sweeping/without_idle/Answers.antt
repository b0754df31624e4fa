use Rattle.cedar_store.proofs.Swept.{swept_entry, swept_overlaid}
use Rattle.cedar_store.proofs.sweeping.without_idle.Goals as goal

pub returns-clause-overlaid : goal.returns-clause-overlaid
returns-clause-overlaid c =
    swept_overlaid c.args.base.now c.args.kept.changes c.in_ok-changes.changes c.args.kept.marks c.args.kept.settled.value.world c.args.kept.noted c.facts.ensures.distinct c.facts.ensures.named c.facts-2.ensures.distinct c.facts-2.ensures.named c.in_ok-changes.ensures c.requires

pub returns-clause-entries : goal.returns-clause-entries
returns-clause-entries c =
    swept_entry c.args.base.now c.args.kept.changes c.in_ok-changes.changes c.args.kept.marks c.args.kept.settled.value.world c.args.kept.noted c.facts.ensures.distinct c.facts.ensures.named c.facts-2.ensures.distinct c.facts-2.ensures.named c.in_ok-changes.ensures
