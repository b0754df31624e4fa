use Rattle.std.proofs.Common.{sym}
use Rattle.base_search.proofs.Finding.{circle_at, circle_none}
use Rattle.base_search.proofs.rows.find_number.Goals as goal

pub returns-in_ok-find_row-in-Some-clause-circle : goal.returns-in_ok-find_row-in-Some-clause-circle
returns-in_ok-find_row-in-Some-clause-circle c =
    circle_at c.args.graph.now.lists c.args.graph.now.places.items c.find_row.new.found c.args.number c.in-Some.place c.has.result c.in_ok-find_row-in-Some.ensures.finding (sym c.in-Some.ensures) c.in_ok-find_row-in-Some.ensures.known c.has.ensures

pub returns-in-None-clause-circle : goal.returns-in-None-clause-circle
returns-in-None-clause-circle c = circle_none c.args.graph.now.lists c.args.graph.now.places.items c.args.number (sym c.in-None.ensures)
