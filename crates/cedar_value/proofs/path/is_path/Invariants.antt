use Rattle.std.proofs.Common.{◌↔◌, length}
use Rattle.cedar_value.specs.Names.{IsName}
use Rattle.cedar_value.proofs.path.is_path.Given as goal

abbrev pub invariant-words : goal.invariant-words
invariant-words l = IsName l.fn.text ↔ IsName l.rest

abbrev pub decreases-words : goal.decreases-words
decreases-words l = length l.rest
