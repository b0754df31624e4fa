use Rattle.std.proofs.Common.{IsTrue}
use Rattle.std.proofs.lemmas.Result.{on_ok_weaker}
use Rattle.cedar_value.specs.World.{Below}
use Rattle.cedar_store.specs.Private.Kept.{in_row}
use Rattle.cedar_store.proofs.AboveNear.{above_of, row_above}
use Rattle.cedar_store.proofs.Gathered.{Gathers-as}
use Rattle.cedar_store.proofs.base.Base.gather_ancestors.Goals as goal

pub returns-clause-gathers : goal.returns-clause-gathers
returns-clause-gathers c =
    let keys = c.self.inside.numbers.keys in
    let w = c.self.inside.table in
    let rows = c.deref.result.now in
    let near = c.parent_numbers-near.result.now in
    let above = above_of keys w c.self.inside.parents c.self.inside.rows.items rows c.self.invariant.0 c.self.invariant.2 c.deref.ensures.value c.args.low.now near c.parent_numbers-near.ensures in
    let row = c.in_ok-row.row in
    let is = row_above keys w rows near row c.args.low.now c.in_ok-row.ensures above in
    rw (← c.self.view_is) (on_ok_weaker c.gather_members.result (Gathers-as c.args.begun c.args.found.now.items c.gather_members.new.found.items (λ v. IsTrue (in_row keys row v)) (λ v. Below w c.args.low.now v) is) c.gather_members.ensures.gathers)
