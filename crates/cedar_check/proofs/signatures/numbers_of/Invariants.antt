use Rattle.std.proofs.Common.{take}
use Rattle.cedar_check.specs.Private.Signatures.{AreNumbered}
use Rattle.cedar_check.proofs.signatures.numbers_of.Given as goal

abbrev pub invariant-loop-environment : goal.invariant-loop-environment
invariant-loop-environment l = AreNumbered l.examples l.numbers.items (take l.environment-index l.environments)
