use Rattle.std.proofs.Common.{sym, ap, ◌∙◌}
use Rattle.base_json.specs.Private.Stages.{tokens_in}
use Rattle.base_json.proofs.QuotedMembers.{end_first}
use Rattle.base_json.proofs.members.MemberReader.is_at_end.Goals as goal

pub returns-in-Bytes : goal.returns-in-Bytes
returns-in-Bytes c = λ ends. end_first c.args.self.now (sym c.self.view_is ∙ ap tokens_in c.in-Bytes.is ∙ c.is_end.ensures ends)
