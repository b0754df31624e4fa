use Rattle.std.proofs.Common.{ap, ◌∙◌, arith}
use Rattle.std.specs.Prelude.{slice_get}
use Rattle.std.proofs.lemmas.Option.{slice_get_past}
use Rattle.cedar_check_diagnostics.proofs.PartLists.{members_back}
use Rattle.cedar_check_diagnostics.proofs.parts.member_count.Goals as goal

pub returns : goal.returns
returns c n le = ap (λ l. slice_get l n) (members_back c.args.members.now) ∙ slice_get_past c.args.members.now n (omega (arith, le))
