use Rattle.std.proofs.Common.{sym}
use Rattle.base_search.proofs.Finding.{closure_if}
use Rattle.base_search.proofs.search.known_row.Goals as goal

pub returns-in-Some : goal.returns-in-Some
returns-in-Some c = closure_if c.args.graph.now.lists c.args.graph.now.places.items c.args.found.now.rows.items c.args.found.now.known.items c.args.number c.in-Some.place c.row.result c.requires (sym c.in-Some.ensures) c.row.ensures.known c.row.ensures.row
