use Rattle.std.proofs.lemmas.Result.{err_from_is_err_and}
use Rattle.serde_json.specs.View.{view}
use Rattle.cedar_conform.proofs.LinkLemmas.{link_refused}
use Rattle.cedar_conform.proofs.links.read_link.Goals as goal

pub returns-in_err-read_slots : goal.returns-in_err-read_slots
returns-in_err-read_slots c =
    let p = err_from_is_err_and c.from_residual.result c.from_residual.ensures.1 in
    rw (p.1, p.2) (link_refused (view c.args.json.now) (view c.in-Some-get.args.now) _ c.in-Some-get.ensures c.in_err-read_slots.ensures)
