use Rattle.std.proofs.Common.{[], None}
use Rattle.cedar_ast_expressions.specs.Private.Depth.{depth}
use Rattle.cedar_check.specs.Typings.{IsTypingOf}
use Rattle.cedar_check_operators.specs.View.{held_view}
use Rattle.cedar_check_diagnostics.specs.Paths.{LeadsTo}
use Rattle.cedar_check_diagnostics.proofs.smallest.smallest.Given as goal

-- the path leads to the part, which has no type
abbrev pub invariant-down : goal.invariant-down
invariant-down l = record {
  leads : LeadsTo l.checking.settings l.checking.schema.now l.checking.environment.now [] l.condition l.at.path.items (held_view l.at.held.items) l.at.part.now;
  untyped : IsTypingOf l.checking.settings l.checking.schema.now l.checking.environment.now (held_view l.at.held.items) l.at.part.now None;
}

abbrev pub decreases-down : goal.decreases-down
decreases-down l = depth l.at.part.now
