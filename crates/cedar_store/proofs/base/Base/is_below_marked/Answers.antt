use Rattle.cedar_store.proofs.AboveNear.{above_of, none_ahead_marked}
use Rattle.cedar_store.proofs.base.Base.is_below_marked.Goals as goal

pub returns : goal.returns
returns c =
    let keys = c.self.inside.numbers.keys in
    let w = c.self.inside.table in
    let rows = c.deref.result.now in
    let near = c.parent_numbers-near.result.now in
    let above = above_of keys w c.self.inside.parents c.self.inside.rows.items rows c.self.invariant.0 c.self.invariant.2 c.deref.ensures.value c.args.low.now near c.parent_numbers-near.ensures in
    rw (← c.self.view_is) (λ clear. none_ahead_marked keys w rows near c.args.marks.now c.args.low.now above (c.is_mark_ahead.ensures clear))
