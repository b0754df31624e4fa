use Rattle.std.proofs.Common.{◌≤◌, length, arith}
use Rattle.base_search.proofs.Finding.{acyclic_all}
use Rattle.base_search.proofs.rows.acyclic_rows.Goals as goal

pub returns-clause-acyclic : goal.returns-clause-acyclic
returns-clause-acyclic c =
    let places = c.args.graph.now.places in
    let sized = places.ok.0 in
    let whole : length places.items ≤ c.loop-number-2.number = omega (arith, c.len-number-end.ensures, c.loop-number-2-test.false) in
    acyclic_all c.args.graph.now.lists places.items c.loop-number-2.number whole c.loop-number-2.invariant.acyclic
