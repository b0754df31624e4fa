use Rattle.std.proofs.Common.{◌≡◌, length, arith}
use Rattle.std.proofs.lemmas.List.{nil_from_length}
use Rattle.base_json.proofs.QuotedMembers.{object_ends}
use Rattle.base_json.proofs.quoted_member.is_end.Goals as goal

pub returns-in-Some : goal.returns-in-Some
returns-in-Some c = λ empty.
    let rest = c.in-Some.rest.now in
    let none : length rest ≡ 0 = grind arith in
    object_ends c.args.text.now rest c.in-Some.ensures (nil_from_length rest none)
