use Rattle.std.proofs.Common.{length, ◌↔◌}
use Rattle.std.specs.Str.{chars, IsUtf8}
use Rattle.cedar_ext.specs.Matching.{IsMatch}
use Rattle.cedar_ext.proofs.pattern.matches_elements.Given as goal

abbrev pub invariant-walk : goal.invariant-walk
invariant-walk l = (IsMatch l.fn.elements (chars l.fn.text) ↔ IsMatch l.todo (chars l.rest)) × IsUtf8 l.rest

abbrev pub decreases-walk : goal.decreases-walk
decreases-walk l = length l.todo
