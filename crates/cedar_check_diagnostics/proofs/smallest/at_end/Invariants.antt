use Rattle.cedar_check_operators.specs.View.{held_view}
use Rattle.cedar_check_diagnostics.specs.Private.Down.{IsBelow}
use Rattle.cedar_check_diagnostics.proofs.smallest.at_end.Given as goal

-- the part is below the one from which the way goes on
abbrev pub invariant-walk : goal.invariant-walk
invariant-walk l = IsBelow l.checking.settings l.checking.schema.now l.checking.environment.now l.from.path.items (held_view l.from.held.items) l.from.part.now l.path.items (held_view l.held.items) l.part
