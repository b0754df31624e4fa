use Rattle.cedar_store.specs.Private.Kept.{AreRows}
use Rattle.cedar_store.proofs.AboveNear.{none_marked_at}
use Rattle.cedar_store.proofs.base.Base.may_be_marked.Goals as goal

pub returns : goal.returns
returns c =
    let b = c.args.self.now in
    let right : AreRows b.keys b.world c.self.inside.rows.items = rw (← c.self.view_is) c.self.invariant.0 in
    λ clear. none_marked_at b c.self.inside.rows.items c.deref.result.now right c.deref.ensures.value c.args.marks.now c.args.number (c.is_mark_ahead_of.ensures clear)
