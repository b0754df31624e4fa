use Rattle.cedar_check_operators.specs.View.{held_view}
use Rattle.cedar_check_diagnostics.proofs.Ways.{below_both, below_same}
use Rattle.cedar_check_diagnostics.proofs.smallest.along.Goals as goal
use Rattle.cedar_check_diagnostics.proofs.smallest.along.Goals.{in-Some+in_ok-found+in-Some-found, in-Some+in_ok-found+in_default-found, in_default}

pub halves-init : goal.halves-init
halves-init c = record {
  below = below_same c.args.checking.settings c.args.checking.schema.now c.args.checking.environment.now c.args.start.path.items (held_view c.args.start.held.items) c.args.start.part.now;
  untyped = c.requires;
}

pub halves-preserved : goal.halves-preserved
halves-preserved c =
    elim c.match-split_at_checked.branch [
      | in-Some+in_ok-found+in-Some-found w ↦
          let start = c.args.start in
          let at = c.halves.at in
          let further = w.in-Some-found.further in
          rw w.at-is (record {
            below = below_both c.args.checking.settings c.args.checking.schema.now c.args.checking.environment.now start.path.items at.path.items further.path.items (held_view start.held.items) (held_view at.held.items) (held_view further.held.items) start.part.now at.part.now further.part.now c.halves.invariant.below (rw w.in-Some-found.is at w.in_ok-found.ensures.below);
            untyped = rw w.in-Some-found.is at w.in_ok-found.ensures.untyped;
          })
      | in-Some+in_ok-found+in_default-found w ↦ rw w.at-is c.halves.invariant
      | in_default w ↦ rw w.at-is c.halves.invariant
    ]
