use Rattle.std.proofs.Common.{◌-◌, ◌<◌, length}
use Rattle.cedar_schema_json.specs.Ends.{AreEnds}
use Rattle.cedar_schema_json.specs.TableView.{table_of}
use Rattle.cedar_schema_json.proofs.form.chains.ends_of.Given as goal

abbrev pub invariant-double : goal.invariant-double
invariant-double l = record { ends : AreEnds (table_of l.forms) l.ends.items; some : 0 < l.reach }

abbrev pub decreases-double : goal.decreases-double
decreases-double l = length l.forms - l.reach
