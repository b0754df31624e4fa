use Rattle.std.proofs.Common.{◌∙◌}
use Rattle.std.specs.BTreeSet.{contains}
use Rattle.cedar_value.specs.Order.{uid_cmp}
use Rattle.cedar_store.proofs.Above.{below-ancestors, below-nothing}
use Rattle.cedar_store.proofs.plain_store.PlainStoreHierarchy.is_below.Goals as goal

pub returns-in-Some-clause-gives : goal.returns-in-Some-clause-gives
returns-in-Some-clause-gives c = c.contains.ensures ∙ below-ancestors c.args.self.now c.args.low.now c.args.high.now (contains uid_cmp c.in-Some.ancestors.now) c.in-Some.ensures

pub returns-in-None-clause-gives : goal.returns-in-None-clause-gives
returns-in-None-clause-gives c = below-nothing c.args.self.now c.args.low.now c.in-None.ensures c.args.high.now
