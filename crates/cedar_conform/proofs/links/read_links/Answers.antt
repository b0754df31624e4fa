use Rattle.serde_json.specs.View.{view}
use Rattle.cedar_conform.proofs.LinkLemmas.{links_refused, only_links}
use Rattle.cedar_conform.proofs.links.read_links.Goals as goal

pub returns-in-Some-clause-only : goal.returns-in-Some-clause-only
returns-in-Some-clause-only c =
    only_links c.one_written_uid.ensures (λ links. links.items) c.args.bytes.now (view c.in-Some.json) (rw c.in-Some.is at c.in_ok-json.ensures) c.links_of.result c.links_of.ensures

pub returns-in-Some-clause-refused : goal.returns-in-Some-clause-refused
returns-in-Some-clause-refused c =
    links_refused (λ links. links.items) c.args.bytes.now (view c.in-Some.json) (rw c.in-Some.is at c.in_ok-json.ensures) c.links_of.result c.links_of.ensures
