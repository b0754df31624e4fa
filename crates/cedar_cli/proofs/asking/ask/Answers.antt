use Rattle.std.proofs.Common.{inr}
use Rattle.cedar_cli.proofs.Undecided.{mapped}
use Rattle.cedar_cli.proofs.asking.ask.Goals as goal

pub returns : goal.returns
returns g c =
    let ready = c.in_ok-ready.ready in
    let held = c.in_ok-ready.ensures.held in
    mapped (λ d h. (ready, held, h.0, h.1)) (λ end h. inr (ready, held, h)) c.answer_line.result (rw c.in_ok-ready.ensures.untouched at c.answer_line.ensures)
