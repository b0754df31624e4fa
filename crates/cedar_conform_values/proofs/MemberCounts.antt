-- An object has as many members as its map has entries.
use Rattle.std.proofs.Common.{◌≡◌, suc, List, [], ◌∷◌, length, refl, ap, map}
use Rattle.std.specs.Prelude.{String}
use Rattle.std.specs.declared.alloc.Global.{Global}
use Rattle.serde_json.specs.Data.{Data}
use Rattle.serde_json.specs.View.{members_of}
use Rattle.serde_json.specs.Events.{members_len}

pub members_len-map : {X : Type 0} (f : X → String Global × Data) (xs : List X) → members_len (members_of (map f xs)) ≡ length xs
members_len-map f [] = refl
members_len-map f (x ∷ xs) = ap suc (members_len-map f xs)
