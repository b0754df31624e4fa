use Rattle.std.proofs.lemmas.Result.{IfOk-weaker}
use Rattle.cedar_auth_candidates.proofs.Fitting.{chosen_in_order, none_in_order}
use Rattle.cedar_auth_candidates.proofs.candidates.Candidates.selected.Goals as goal

pub returns-in-Some : goal.returns-in-Some
returns-in-Some c =
    IfOk-weaker c.chosen.result _ _
    (λ ks chosen. chosen_in_order c.args.self.now c.args.request.now c.args.store.now c.in-Some.listing.now ks.now c.in-Some.ensures chosen)
    c.chosen.ensures

pub returns-in-None : goal.returns-in-None
returns-in-None c = none_in_order c.args.self.now c.args.request.now c.args.store.now c.in-None.ensures
