use Rattle.std.proofs.Common.{ap, sym, ◌∙◌}
use Rattle.std.specs.Prelude.{slice_get}
use Rattle.cedar_check_diagnostics.proofs.PartLists.{members_back}
use Rattle.cedar_check_diagnostics.proofs.parts.member_at.Goals as goal

pub returns : goal.returns
returns c = c.nth_member.ensures ∙ sym (ap (λ l. slice_get l c.args.number) (members_back c.args.members.now))
