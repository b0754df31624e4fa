use Rattle.std.proofs.Common.{◌∙◌}
use Rattle.std.specs.BTreeSet.{contains}
use Rattle.cedar_value.specs.Order.{uid_cmp}
use Rattle.cedar_store.proofs.Above.{any_chain, below_any-ancestors, below_any-nothing}
use Rattle.cedar_store.proofs.plain_store.PlainStoreHierarchy.is_below_any.Goals as goal

pub returns-in-Some-clause-chain : goal.returns-in-Some-clause-chain
returns-in-Some-clause-chain c = any_chain c.args.self.now c.args.low.now (contains uid_cmp c.in-Some.ancestors.now) c.args.highs.now c.in-Some.ensures c.has_any.result c.has_any.ensures

pub returns-in-Some-clause-gives : goal.returns-in-Some-clause-gives
returns-in-Some-clause-gives c = c.has_any.ensures ∙ below_any-ancestors c.args.self.now c.args.low.now (contains uid_cmp c.in-Some.ancestors.now) c.in-Some.ensures c.args.highs.now

pub returns-in-None-clause-gives : goal.returns-in-None-clause-gives
returns-in-None-clause-gives c = below_any-nothing c.args.self.now c.args.low.now c.in-None.ensures c.args.highs.now
