use Rattle.std.proofs.lemmas.Result.{on_ok_weaker}
use Rattle.cedar_store.proofs.AboveNear.{above_of, row_above}
use Rattle.cedar_store.proofs.Members.{AddsAncestors-row}
use Rattle.cedar_store.proofs.base.Base.ancestors.Goals as goal

pub returns-clause-adds : goal.returns-clause-adds
returns-clause-adds c =
    let keys = c.self.inside.numbers.keys in
    let w = c.self.inside.table in
    let rows = c.deref.result.now in
    let near = c.parent_numbers-near.result.now in
    let above = above_of keys w c.self.inside.parents c.self.inside.rows.items rows c.self.invariant.0 c.self.invariant.2 c.deref.ensures.value c.args.low.now near c.parent_numbers-near.ensures in
    let row = c.in_ok-row.row in
    rw (← c.self.view_is) (on_ok_weaker c.push_members.result (AddsAncestors-row w c.args.low.now keys row c.args.found.now.items c.push_members.new.found.items (row_above keys w rows near row c.args.low.now c.in_ok-row.ensures above)) c.push_members.ensures.adds)
