-- What a hasher is fed of a uid.
use Rattle.std.specs.Prelude.{◌≡◌, ℕ, List, ◌++◌, IsTrue}
use Rattle.std.specs.Hash as fed
use Rattle.std.proofs.Common.{ap}
use Rattle.cedar_value.specs.Datum.{same_uid}
use Rattle.cedar_value.specs.Private.Equality.{same_uid-Decides}
use Rattle.cedar_value.specs.declared.uid.Uid.{Uid}

-- the text of its type and then its id, each with a mark at its end
abbrev pub uid_input : Uid → List (List ℕ)
uid_input u = fed.str u.ty ++ fed.str u.id

pub uid_input-same : (u v : Uid) → IsTrue (same_uid u v) → uid_input u ≡ uid_input v
uid_input-same u v h = ap uid_input ((same_uid-Decides u v).0 h)
