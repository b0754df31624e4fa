use Rattle.cedar_cli.proofs.Undecided.{after_answer}
use Rattle.cedar_cli.proofs.asking.answer_line.Goals as goal

pub returns-in-Done : goal.returns-in-Done
returns-in-Done g c =
    after_answer c.args.ready.now c.args.line.now _ _ _ c.decision_of.result (rw c.new-source.ensures at c.in-Done.ensures) c.decision_of.ensures
