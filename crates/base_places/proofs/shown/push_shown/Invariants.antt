use Rattle.std.proofs.Common.{◌≡◌, ◌++◌, map, take, length}
use Rattle.std.specs.Str.{chars}
use Rattle.base_places.specs.Shown.{shown_as}
use Rattle.base_places.proofs.shown.push_shown.Given as goal

abbrev pub invariant-loop-character : goal.invariant-loop-character
invariant-loop-character l =
    chars l.shown.bytes.items ≡ chars l.initial.shown.bytes.items ++ map shown_as (take (length l.yielded) (chars l.text))
