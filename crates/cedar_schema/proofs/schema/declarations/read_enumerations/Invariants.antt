use Rattle.std.proofs.Common.{drop}
use Rattle.cedar_schema_json.specs.EntryView.{entries_view}
use Rattle.cedar_schema.specs.Schemas.{add_enumeration, enumerated_faults}
use Rattle.cedar_schema.proofs.EachLemmas.{IsGoing}
use Rattle.cedar_schema.proofs.schema.declarations.read_enumerations.Given as goal

abbrev pub invariant-loop-i : goal.invariant-loop-i
invariant-loop-i l = IsGoing add_enumeration enumerated_faults l.found.entries (entries_view (drop l.i l.entries)) (entries_view l.entries)
