use Rattle.std.proofs.Common.{◌∙◌, subst}
use Rattle.cedar_auth.specs.AnswerLine.{AnswersLine}
use Rattle.cedar_auth_spec.specs.Ready.{ReadyTree}
use Rattle.cedar_c.proofs.engine.Engine.answer_line.Goals as goal

pub returns-clause-room : goal.returns-clause-room
returns-clause-room c = λ full.
    let given = c.give_answer.ensures.room full in
    (given.0, subst (λ (r : ReadyTree). AnswersLine r c.args.line.now given.0) (c.deref.ensures ∙ c.self.view_is) given.1, given.2)
