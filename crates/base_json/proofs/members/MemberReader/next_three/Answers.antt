use Rattle.std.proofs.Common.{sym, ap, ◌∙◌}
use Rattle.json.specs.Lex.{tokens}
use Rattle.base_json.specs.Private.Stages.{tokens_in}
use Rattle.base_json.proofs.QuotedMembers.{three_first}
use Rattle.base_json.proofs.members.MemberReader.next_three.Goals as goal

pub returns-clause-members : goal.returns-clause-members
returns-clause-members c =
    let here = sym c.self.view_is ∙ ap tokens_in c.in-Bytes.is in
    let v = c.in-Some.values in
    three_first c.args.self.now (tokens c.in-Some.rest.now) c.args.first.now v.first c.args.second.now v.second c.args.third.now v.third (here ∙ c.in-Some.ensures)
