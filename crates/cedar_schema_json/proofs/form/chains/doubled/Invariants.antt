use Rattle.std.proofs.Common.{◌≡◌, length}
use Rattle.cedar_schema_json.specs.Expansion.{Table}
use Rattle.cedar_schema_json.specs.Ends.{AreEnds}
use Rattle.cedar_schema_json.proofs.form.chains.doubled.Given as goal

abbrev pub invariant-loop-place : goal.invariant-loop-place
invariant-loop-place l = record { ends : (t : Table) → AreEnds t l.ends → AreEnds t l.further.items; size : length l.further.items ≡ l.place }
