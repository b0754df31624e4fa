use Rattle.std.proofs.Common.{◌≡◌, length}
use Rattle.base_search.proofs.found.Found.new.Given as goal

abbrev pub invariant-loop-place : goal.invariant-loop-place
invariant-loop-place l = length l.rows.items ≡ l._place
