use Rattle.std.proofs.Common.{append_assoc}
use Rattle.cedar_auth.proofs.answer.write_erring.Goals as goal

pub returns-clause-tokens : goal.returns-clause-tokens
returns-clause-tokens c =
    rw (← c.erring.view_is, c.in_ok-end_object.ensures.ok, c.in_ok-string-2.ensures.ok, c.in_ok-key-2.ensures.ok, c.in_ok-string.ensures.ok, c.in_ok-key.ensures.ok, c.in_ok-begin_object.ensures.ok, c.error_name.ensures)
    (simp append_assoc)
