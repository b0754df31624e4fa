use Rattle.std.proofs.Common.{None}
use Rattle.cedar_check.specs.Typings.{IsTypingOf}
use Rattle.cedar_check_operators.specs.View.{held_view}
use Rattle.cedar_check_diagnostics.specs.Private.Down.{IsBelow}
use Rattle.cedar_check_diagnostics.proofs.smallest.along.Given as goal

-- the part is below the first one, and has no type
abbrev pub invariant-halves : goal.invariant-halves
invariant-halves l = record {
  below : IsBelow l.checking.settings l.checking.schema.now l.checking.environment.now l.fn.start.path.items (held_view l.fn.start.held.items) l.fn.start.part.now l.at.path.items (held_view l.at.held.items) l.at.part.now;
  untyped : IsTypingOf l.checking.settings l.checking.schema.now l.checking.environment.now (held_view l.at.held.items) l.at.part.now None;
}

abbrev pub decreases-halves : goal.decreases-halves
decreases-halves l = l.count
