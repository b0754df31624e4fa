use Rattle.std.proofs.Common.{◌∙◌}
use Rattle.cedar_store.specs.Private.Kept.{in_ahead}
use Rattle.cedar_store.proofs.Above.{any_chain, below_any-ancestors}
use Rattle.cedar_store.proofs.AboveNear.{above_of}
use Rattle.cedar_store.proofs.base.BaseHierarchy.is_below_any.Goals as goal

pub returns-clause-chain : goal.returns-clause-chain
returns-clause-chain c =
    let keys = c.self.inside.numbers.keys in
    let w = c.self.inside.table in
    let rows = c.deref.result.now in
    let near = c.parent_numbers-near.result.now in
    let above = above_of keys w c.self.inside.parents c.self.inside.rows.items rows c.self.invariant.0 c.self.invariant.2 c.deref.ensures.value c.args.low.now near c.parent_numbers-near.ensures in
    rw (← c.self.view_is) (any_chain w c.args.low.now (in_ahead keys rows near) c.args.highs.now above c.is_any_ahead.result c.is_any_ahead.ensures)

pub returns-clause-gives : goal.returns-clause-gives
returns-clause-gives c =
    let keys = c.self.inside.numbers.keys in
    let w = c.self.inside.table in
    let rows = c.deref.result.now in
    let near = c.parent_numbers-near.result.now in
    let above = above_of keys w c.self.inside.parents c.self.inside.rows.items rows c.self.invariant.0 c.self.invariant.2 c.deref.ensures.value c.args.low.now near c.parent_numbers-near.ensures in
    rw (← c.self.view_is) (c.is_any_ahead.ensures ∙ below_any-ancestors w c.args.low.now (in_ahead keys rows near) above c.args.highs.now)
