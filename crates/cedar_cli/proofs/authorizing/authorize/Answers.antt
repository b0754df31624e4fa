use Rattle.std.proofs.Common.{inr}
use Rattle.cedar_cli.proofs.authorizing.authorize.Goals as goal

pub returns-clause-ends : goal.returns-clause-ends
returns-clause-ends g c = inr (c.in-Ok.ready, c.in-Ok.ensures.held, rw c.in-Ok.ensures.untouched at c.answer-end.ensures)
