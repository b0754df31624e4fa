use Rattle.std.proofs.Common.{sym, ◌∙◌}
use Rattle.cedar_store.proofs.AboveNear.{none_ahead_of}
use Rattle.cedar_store.proofs.ahead.is_mark_ahead_of.Goals as goal

pub returns-else-has : goal.returns-else-has
returns-else-has c = λ clear. none_ahead_of c.args.rows.now c.args.marks.now c.args.at (sym c.has.ensures ∙ c.if-has.false) (c.is_marked_at.ensures clear)
