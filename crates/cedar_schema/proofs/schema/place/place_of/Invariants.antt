use Rattle.std.proofs.Common.{◌-◌}
use Rattle.cedar_schema.specs.Private.Places.{AreNarrowed}
use Rattle.cedar_schema.proofs.schema.place.place_of.Given as goal

abbrev pub invariant-halves : goal.invariant-halves
invariant-halves l = AreNarrowed l.environments l.action l.principal l.resource l.low l.high

abbrev pub decreases-halves : goal.decreases-halves
decreases-halves l = l.high - l.low
