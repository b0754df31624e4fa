-- The value that an operand holds.
use Rattle.cedar_value.specs.Datum.{Datum, boolean, long, text, uid, set, record_of, extension, members_of, fields_of}
use Rattle.cedar_machine_stack.specs.declared.operand.Held.{Held}
use Rattle.cedar_machine_stack.specs.declared.operand.Held.TheVariants.{Boolean, Long, String, Uid, Set, Record, Extension, Made}

abbrev pub datum_held : Held → Datum
datum_held (Boolean b) = boolean b
datum_held (Long n) = long n
datum_held (String t) = text t.now
datum_held (Uid u) = uid u.now
datum_held (Set ds) = set (members_of ds.now)
datum_held (Record ps) = record_of (fields_of ps.now)
datum_held (Extension e) = extension e
datum_held (Made v) = v.value
