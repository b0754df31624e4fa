use Rattle.std.proofs.Common.{◌≡◌, length}
use Rattle.cedar_policies_json.specs.Repeats.{keys_in}
use Rattle.cedar_policies_json.proofs.repeats.take_key.Given as goal

abbrev pub invariant-walk : goal.invariant-walk
invariant-walk l = keys_in l.fn.reader ≡ keys_in l.reader

abbrev pub decreases-walk : goal.decreases-walk
decreases-walk l = length l.reader
