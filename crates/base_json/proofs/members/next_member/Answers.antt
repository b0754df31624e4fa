use Rattle.std.proofs.Common.{◌≡◌, Some, None, arith}
use Rattle.json.specs.Json.{read_key}
use Rattle.base_json.specs.Members.{lent_view}
use Rattle.base_json.proofs.ComingMembers.{ended, behind, member_to_come, no_member, no_key}
use Rattle.base_json.proofs.members.next_member.Goals as goal

pub returns-in_err-key-clause-refused : goal.returns-in_err-key-clause-refused
returns-in_err-key-clause-refused c refused = no_key c.args.reader.now c.in_err-key.ensures.value

pub returns-then-is_some-clause-refused : goal.returns-then-is_some-clause-refused
returns-then-is_some-clause-refused c refused =
    let over : read_key c.args.reader.now ≡ Some (None, c.next_key.new.self) = grind arith in
    behind c.args.reader.now c.next_key.new.self c.next.new.self c.next.result over c.next.ensures.value (grind arith)

pub returns-in_default-clause-members : goal.returns-in_default-clause-members
returns-in_default-clause-members c =
    let over : read_key c.args.reader.now ≡ Some (None, c.next_key.new.self) = grind arith in
    ended c.args.reader.now c.next_key.new.self c.next.new.self c.next.result over c.next.ensures.value (grind arith)

pub returns-in-Ok-clause-members : goal.returns-in-Ok-clause-members
returns-in-Ok-clause-members c =
    let named : read_key c.args.reader.now ≡ Some (Some c.in-Some.key.now, c.next_key.new.self) = grind arith in
    member_to_come c.args.reader.now c.next_key.new.self c.read_lent.new.reader c.in-Some.key.now (lent_view c.in-Ok.member) named c.in-Ok.ensures.ok c.in-Ok.ensures.shorter

pub returns-in-Err-clause-refused : goal.returns-in-Err-clause-refused
returns-in-Err-clause-refused c refused =
    let named : read_key c.args.reader.now ≡ Some (Some c.in-Some.key.now, c.next_key.new.self) = grind arith in
    no_member c.args.reader.now c.next_key.new.self c.in-Some.key.now named (c.in-Err.ensures.err (grind arith))
