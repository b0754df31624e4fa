use Rattle.std.proofs.Common.{sym, ap, ◌∙◌, arith}
use Rattle.json.specs.Lex.{tokens}
use Rattle.base_json.specs.Private.Stages.{tokens_in}
use Rattle.base_json.proofs.QuotedMembers.{end_first, member_first}
use Rattle.base_json.proofs.members.MemberReader.next.Goals as goal

pub returns-in-Some-clause-members : goal.returns-in-Some-clause-members
returns-in-Some-clause-members c =
    let here = sym c.self.view_is ∙ ap tokens_in c.in-Bytes.is in
    member_first c.args.self.now (tokens c.in-Some.member.rest.now) c.in-Some.member.key.now c.in-Some.member.value (here ∙ c.in-Some.ensures)

pub returns-then-is_end-clause-members : goal.returns-then-is_end-clause-members
returns-then-is_end-clause-members c =
    let here = sym c.self.view_is ∙ ap tokens_in c.in-Bytes.is in
    end_first c.args.self.now (here ∙ c.is_end.ensures (grind arith))
