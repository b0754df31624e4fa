-- Which trees are values of a program.
use Rattle.std.specs.Int.{w64}
use Rattle.std.specs.Prelude.{FitsSigned}
use Rattle.cedar_ext.specs.Extensions.{IsExtension}
use Rattle.cedar_value.specs.Datum.{Datum, boolean, long, text, uid, set, record_of, extension, Members, no_members, member, Fields, no_fields, field, list_of, pairs_of}
use Rattle.cedar_value.specs.Order.{IsAscending, AreKeysAscending}

-- The tree is a value, at every depth. Its numbers, and those of its values of extension types, are of 64 bits. The members
-- of each set ascend in the order of values, and the keys of each record ascend by their bytes (Cedar language reference, data
-- types).
abbrev mutual
  pub IsValue : Datum → Type 0
  IsValue (boolean b) = Unit {0}
  IsValue (long n) = FitsSigned w64 n
  IsValue (text s) = Unit {0}
  IsValue (uid u) = Unit {0}
  IsValue (set ms) = IsAscending (list_of ms) × AreValues ms
  IsValue (record_of fs) = AreKeysAscending (pairs_of fs) × HoldValues fs
  IsValue (extension e) = IsExtension e

  -- Each of the members is a value (Cedar language reference, sets).
  pub AreValues : Members → Type 0
  AreValues no_members = Unit {0}
  AreValues (member d ms) = IsValue d × AreValues ms

  -- Each of the fields holds a value (Cedar language reference, records).
  pub HoldValues : Fields → Type 0
  HoldValues no_fields = Unit {0}
  HoldValues (field k d fs) = IsValue d × HoldValues fs
