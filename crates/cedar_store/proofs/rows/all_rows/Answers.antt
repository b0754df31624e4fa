use Rattle.std.proofs.Common.{sym, subst}
use Rattle.base_search.specs.Faults.{IsThere as IsSearchFault}
use Rattle.cedar_value.specs.World.{Below}
use Rattle.cedar_store.proofs.Linked.{acyclic_links, below_by_numbers, number_within, rows_closed}
use Rattle.cedar_store.proofs.rows.all_rows.Goals as goal

pub returns-in-Ok-clause-rows : goal.returns-in-Ok-clause-rows
returns-in-Ok-clause-rows c = rows_closed c.args.numbers.now.keys c.args.table.now c.args.graph.now.lists c.args.graph.now.places.items c.requires.graph c.in-Ok.rows.items c.in-Ok.ensures.rows

pub returns-in-Ok-clause-acyclic : goal.returns-in-Ok-clause-acyclic
returns-in-Ok-clause-acyclic c = acyclic_links c.args.numbers.now.keys c.args.table.now c.args.graph.now.lists c.args.graph.now.places.items c.requires.graph c.requires.whole c.in-Ok.ensures.acyclic

pub uid_at-requires : goal.uid_at-requires
uid_at-requires c =
    number_within c.args.numbers.now.keys c.args.table.now c.args.graph.now.lists c.args.graph.now.places.items c.requires.graph c.in-Err-Circle.number c.in-Err-Circle.number
    (subst (IsSearchFault c.args.graph.now.lists c.args.graph.now.places.items) c.in-Err-Circle.field-0-is c.in-Err-Circle.ensures.refused)

pub returns-in_ok-try_clone-in-Err-Circle-clause-refused : goal.returns-in_ok-try_clone-in-Err-Circle-clause-refused
returns-in_ok-try_clone-in-Err-Circle-clause-refused c =
    let w = c.args.table.now in
    let lists = c.args.graph.now.lists in
    let places = c.args.graph.now.places.items in
    subst (λ u. Below w u u) (sym c.in_ok-try_clone-in-Err-Circle.ensures)
    (below_by_numbers c.args.numbers.now.keys w lists places c.requires.graph c.uid_at.result.now c.in-Err-Circle.number c.uid_at.ensures (subst (IsSearchFault lists places) c.in-Err-Circle.field-0-is c.in-Err-Circle.ensures.refused))
