use Rattle.std.proofs.Common.{◌≡◌, true, take}
use Rattle.std.specs.List.{list_all}
use Rattle.base_json.specs.Quoted.{is_plain}
use Rattle.base_json.proofs.quoted_member.plain_length.Given as goal

-- what was passed is plain
abbrev pub invariant-loop-place : goal.invariant-loop-place
invariant-loop-place l = list_all is_plain (take l.place l.bytes) ≡ true
