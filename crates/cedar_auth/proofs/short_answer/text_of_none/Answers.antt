use Rattle.cedar_auth.proofs.ShortTexts.{none_allowed, none_denied}
use Rattle.cedar_auth.proofs.short_answer.text_of_none.Goals as goal

pub returns-in-Allow : goal.returns-in-Allow
returns-in-Allow c = none_allowed c.args.decision c.in-Allow.is

pub returns-in-Deny : goal.returns-in-Deny
returns-in-Deny c = none_denied c.args.decision c.in-Deny.is
