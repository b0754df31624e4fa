use Rattle.std.proofs.Common.{List, ℕ, ◌<◌, subst}
use Rattle.base_search.specs.Links.{IsRowOver, next}
use Rattle.base_search.proofs.Finding.{finding_more}
use Rattle.base_search.proofs.rows.find_row.Goals as goal

pub returns-in_ok-row-clause-finding : goal.returns-in_ok-row-clause-finding
returns-in_ok-row-clause-finding c =
    let lists = c.args.graph.now.lists in
    let places = c.args.graph.now.places.items in
    finding_more lists places c.args.found.now c.keep.new.self c.args.place c.in_ok-row.row c.requires c.keep.ensures.rows c.keep.ensures.known (subst (λ n. c.args.place < n) c.len.ensures c.if-place-len.true)
    (subst (λ (l : List ℕ). IsRowOver (next lists places) l c.in_ok-row.row) c.get.ensures c.in_ok-row.ensures)
