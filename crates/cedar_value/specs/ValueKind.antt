-- What a kind of the code denotes.
use Rattle.cedar_value.specs.Datum.{Datum, boolean, long, text, uid, set, record_of, extension, members_of, fields_of}
use Rattle.cedar_value.specs.declared.value.ValueKind.{ValueKind}
use Rattle.cedar_value.specs.declared.value.ValueKind.TheVariants.{Boolean, Long, String, Uid, Set, Record, Extension}

-- The value that a kind denotes (this project).
abbrev pub datum_of : ValueKind → Datum
datum_of (Boolean b) = boolean b
datum_of (Long n) = long n
datum_of (String t) = text t
datum_of (Uid u) = uid u.value
datum_of (Set ds) = set (members_of ds)
datum_of (Record ps) = record_of (fields_of ps)
datum_of (Extension e) = extension e
