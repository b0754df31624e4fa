use Rattle.std.proofs.Common.{ℕ, List, ap, ◌∙◌, ◌++◌, subst}
use Rattle.cedar_c.specs.Buffers.{IsTooLong}
use Rattle.cedar_c.proofs.answering.give_answer.Goals as goal

pub returns-clause-room : goal.returns-clause-room
returns-clause-room c = λ full.
    let answer = c.in-Ok.ensures.ok in
    let is = answer.2 ∙ ap (λ (before : List ℕ). before ++ answer.0) c.clear.ensures.items in (
      answer.0,
      answer.1,
      subst (λ (told : List ℕ). IsTooLong told c.args.text.now c.give.new.written) (c.deref.ensures.value ∙ is) (c.give.ensures.too_long full),
    )
