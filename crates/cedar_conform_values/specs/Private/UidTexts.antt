-- The uid that lent texts are.
use Rattle.cedar_value.specs.declared.uid.Uid.{Uid}
use Rattle.cedar_conform_values.specs.declared.uid.UidTexts.{UidTexts}

abbrev pub uid_of : UidTexts → Uid
uid_of t = record { ty = t.ty.now; id = t.id.now }
