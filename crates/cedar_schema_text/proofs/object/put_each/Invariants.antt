use Rattle.std.proofs.Common.{◌≡◌, drop}
use Rattle.serde_json.specs.View.{view, members_view}
use Rattle.cedar_schema_text.specs.Objects as spec
use Rattle.cedar_schema_text.specs.Marks.{lent_marks}
use Rattle.cedar_schema_text.proofs.object.put_each.Given as goal

abbrev pub invariant-loop-name : goal.invariant-loop-name
invariant-loop-name l = spec.put_each (lent_marks l.names) (view l.value) (members_view l.fn.found.entries) ≡ spec.put_each (lent_marks (drop l.name-index l.names)) (view l.value) (members_view l.found.entries)
