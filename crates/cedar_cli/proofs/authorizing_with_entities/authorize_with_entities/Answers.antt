use Rattle.std.proofs.Common.{inr}
use Rattle.cedar_cli.proofs.authorizing_with_entities.authorize_with_entities.Goals as goal

pub returns-clause-ends : goal.returns-clause-ends
returns-clause-ends g c = inr (
  c.in-Ok.ready,
  c.in-Ok.ensures.held,
  c.lines_with_entities_are_answered_soundly.ensures,
  rw c.in-Ok.ensures.untouched at c.answer_with_entities-end.ensures,
)
