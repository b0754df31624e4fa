use Rattle.std.proofs.Common.{◌≡◌, true, take}
use Rattle.std.specs.Char.{is_ascii_digit}
use Rattle.std.specs.List.{list_all}
use Rattle.base_json.proofs.plain_integer.digits_length.Given as goal

-- what was passed are digits
abbrev pub invariant-loop-place : goal.invariant-loop-place
invariant-loop-place l = list_all is_ascii_digit (take l.place l.bytes) ≡ true
