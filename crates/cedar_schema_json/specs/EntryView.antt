-- The entry that a value of the code is.
use Rattle.std.specs.Prelude.{List, map}
use Rattle.serde_json.specs.View.{view}
use Rattle.cedar_schema_json.specs.declared.json.entry.Entry.{Entry}
use Rattle.cedar_schema_json.specs.Entries.{EntryTree}

-- The entry that a value of the code is (own).
abbrev pub entry_of : Entry → EntryTree
entry_of e = record { namespace = e.namespace.now; key = e.key.now; body = view e.body.now }

-- The entries that the values of a list are, in its order (own).
abbrev pub entries_view : List Entry → List EntryTree
entries_view = map entry_of
