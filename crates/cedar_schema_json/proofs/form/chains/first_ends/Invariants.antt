use Rattle.std.proofs.Common.{◌≡◌, length}
use Rattle.cedar_schema_json.specs.Ends.{AreEnds}
use Rattle.cedar_schema_json.specs.TableView.{table_of}
use Rattle.cedar_schema_json.proofs.form.chains.first_ends.Given as goal

abbrev pub invariant-loop-place : goal.invariant-loop-place
invariant-loop-place l = record { ends : AreEnds (table_of l.forms) l.ends.items; size : length l.ends.items ≡ l.place }
