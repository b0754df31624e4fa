use Rattle.std.proofs.Common.{append_assoc}
use Rattle.cedar_auth.proofs.answer.write_response.Goals as goal

pub returns-clause-tokens : goal.returns-clause-tokens
returns-clause-tokens c =
    rw (← c.response.view_is, c.in_ok-end_object.ensures.ok, c.in_ok-write_errings.ensures.tokens, c.in_ok-key-3.ensures.ok, c.in_ok-write_ids.ensures.tokens, c.in_ok-key-2.ensures.ok, c.in_ok-string.ensures.ok, c.in_ok-key.ensures.ok, c.in_ok-begin_object.ensures.ok, c.decision_name.ensures)
    (simp append_assoc)
