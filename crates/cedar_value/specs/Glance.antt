-- What a look at a value shows.
use Rattle.cedar_value.specs.Datum.{Datum, boolean, long, text, uid, set, record_of, extension, members_of, fields_of}
use Rattle.cedar_value.specs.declared.glance.Glance.{Glance}
use Rattle.cedar_value.specs.declared.glance.Glance.TheVariants.{Boolean, Long, String, Uid, Set, Record, Extension}

-- The value that is looked at (this project).
abbrev pub datum_seen : Glance → Datum
datum_seen (Boolean b) = boolean b
datum_seen (Long n) = long n
datum_seen (String t) = text t.now
datum_seen (Uid u) = uid u.now
datum_seen (Set ds) = set (members_of ds.now)
datum_seen (Record ps) = record_of (fields_of ps.now)
datum_seen (Extension e) = extension e.now
