use Rattle.base_lines.proofs.Whole.{begun_whole}
use Rattle.cedar_auth.proofs.Unwritten.{begins_with_none, first_of_none}
use Rattle.cedar_auth.proofs.serving.serve.Goals as goal

pub returns-in_default-clause-err : goal.returns-in_default-clause-err
returns-in_default-clause-err g c = begins_with_none _ _ _

pub returns-in_default-clause-whole : goal.returns-in_default-clause-whole
returns-in_default-clause-whole g c = begun_whole _ _ _ _ (begins_with_none _ _ _) c.lines_have_answers.ensures

pub returns-in_default-clause-memory : goal.returns-in_default-clause-memory
returns-in_default-clause-memory g c = λ _. first_of_none _ _ _

pub returns-clause-whole : goal.returns-clause-whole
returns-clause-whole g c = c.serve.ensures.whole c.lines_have_answers.ensures

pub returns-clause-sound : goal.returns-clause-sound
returns-clause-sound g c = c.lines_are_answered_soundly.ensures
