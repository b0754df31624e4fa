use Rattle.std.proofs.Common.{ap, ◌∙◌}
use Rattle.base_json.specs.Private.Trees.{tree_of_tokens}
use Rattle.json.specs.Lex.{tokens}
use Rattle.base_json.proofs.ComingMembers.{object_opened}
use Rattle.base_json.proofs.QuotedMembers.{object_begins}
use Rattle.base_json.proofs.members.MemberReader.open.Goals as goal

pub returns-in-Some : goal.returns-in-Some
returns-in-Some c =
    let rest = c.in-Some.rest.now in
    ap tree_of_tokens (ap tokens c.in-Some.ensures ∙ object_begins rest) ∙ object_opened (tokens rest)
