use Rattle.std.proofs.Common.{◌∙◌, subst}
use Rattle.cedar_auth_spec.specs.Ready.{ReadyTree}
use Rattle.cedar_c.specs.Deciding.{AnswersParts, ArePartsRefused}
use Rattle.cedar_c.specs.Pieces.{parts_in}
use Rattle.cedar_c.proofs.engine.Engine.decide.Goals as goal

pub returns-clause-refused : goal.returns-clause-refused
returns-clause-refused c = λ done.
    let given = c.give_decision.ensures.refused done in
    (subst (λ (r : ReadyTree). ArePartsRefused r (parts_in c.args.bytes.now) c.give_decision.new.decided.refused) (c.deref.ensures ∙ c.self.view_is) given.0, given.1)

pub returns-clause-room : goal.returns-clause-room
returns-clause-room c = λ full.
    let given = c.give_decision.ensures.room full in
    (given.0, subst (λ (r : ReadyTree). AnswersParts r (parts_in c.args.bytes.now) given.0) (c.deref.ensures ∙ c.self.view_is) given.1, given.2)
