use Rattle.std.proofs.Common.{ℕ, ◌++◌, List, length, sym, ap, subst, ◌∙◌, arith}
use Rattle.base_bits.specs.Bits.{has_bit}
use Rattle.base_search.specs.Links.{next}
use Rattle.base_search.proofs.Ahead.{IsSearching, Gains-bit, none_left, search_start, search_again, search_new, search_join, search_end, new_smaller, join_smaller}
use Rattle.base_search.proofs.Finding.{next_past, no_bit}
use Rattle.base_search.proofs.search.row_over.Goals as goal

pub search-init : goal.search-init
search-init c =
    search_start (next c.args.graph.now.lists c.args.graph.now.places.items) c.args.list.now (has_bit c.new-row.result) c.extend_from_slice.new.self.items (λ v. ap (λ (r : List ℕ). has_bit r v) c.new-row.ensures ∙ no_bit v)
    (c.in_ok-extend_from_slice.ensures.items ∙ ap (λ (l : List ℕ). l ++ c.args.list.now) c.new-pending.ensures.items)

pub search-preserved : goal.search-preserved
search-preserved c =
    let links = next c.args.graph.now.lists c.args.graph.now.places.items in
    search_again links c.args.list.now c.in-Some.number (has_bit c.search.row) c.pop.new.self.items (sym c.has.ensures ∙ c.if-not-has.false)
    (subst (IsSearching links c.args.list.now (has_bit c.search.row)) c.in-Some.ensures.items c.search.invariant)

pub search-smaller-in-Continue-branch-4 : goal.search-smaller-in-Continue-branch-4
search-smaller-in-Continue-branch-4 c =
    let lists = c.args.graph.now.lists in
    let places = c.args.graph.now.places.items in
    let number = c.in-Some.number in
    new_smaller (next lists places) (has_bit c.search.row) (has_bit c.insert.new.self) number (length places) c.search.pending.items c.pop.new.self.items c.extend_from_slice-in-None.new.self.items
    (Gains-bit c.search.row c.insert.new.self number c.in_ok-insert.ensures) (sym c.has.ensures ∙ c.if-not-has.true) (next_past lists places number) c.in-Some.ensures.items
    (c.in_ok-extend_from_slice-in-None.ensures.items ∙ ap (λ (l : List ℕ). c.pop.new.self.items ++ l) c.links.ensures)

pub search-preserved-in-Continue-branch-4 : goal.search-preserved-in-Continue-branch-4
search-preserved-in-Continue-branch-4 c =
    let links = next c.args.graph.now.lists c.args.graph.now.places.items in
    let number = c.in-Some.number in
    search_new links c.args.list.now number (has_bit c.search.row) (has_bit c.insert.new.self) c.pop.new.self.items c.extend_from_slice-in-None.new.self.items (Gains-bit c.search.row c.insert.new.self number c.in_ok-insert.ensures)
    (c.in_ok-extend_from_slice-in-None.ensures.items ∙ ap (λ (l : List ℕ). c.pop.new.self.items ++ l) c.links.ensures)
    (subst (IsSearching links c.args.list.now (has_bit c.search.row)) c.in-Some.ensures.items c.search.invariant)

pub search-smaller-in-Continue-branch-3 : goal.search-smaller-in-Continue-branch-3
search-smaller-in-Continue-branch-3 c =
    let number = c.in-Some.number in
    join_smaller (next c.args.graph.now.lists c.args.graph.now.places.items) (has_bit c.search.row) (has_bit c.insert.new.self) (has_bit c.in-Some-known_row.known.now) (has_bit c.join.new.self) number (length c.args.graph.now.places.items) c.search.pending.items c.pop.new.self.items
    (Gains-bit c.search.row c.insert.new.self number c.in_ok-insert.ensures) c.in_ok-join-in-Some-known_row.ensures c.in-Some.ensures.items

pub search-preserved-in-Continue-branch-3 : goal.search-preserved-in-Continue-branch-3
search-preserved-in-Continue-branch-3 c =
    let links = next c.args.graph.now.lists c.args.graph.now.places.items in
    let number = c.in-Some.number in
    search_join links c.args.list.now number (has_bit c.search.row) (has_bit c.insert.new.self) (has_bit c.in-Some-known_row.known.now) (has_bit c.join.new.self) c.pop.new.self.items
    (Gains-bit c.search.row c.insert.new.self number c.in_ok-insert.ensures) c.in-Some-known_row.ensures c.in_ok-join-in-Some-known_row.ensures
    (subst (IsSearching links c.args.list.now (has_bit c.search.row)) c.in-Some.ensures.items c.search.invariant)

pub returns : goal.returns
returns c =
    let links = next c.args.graph.now.lists c.args.graph.now.places.items in
    let sized = c.search.pending.ok.0 in
    let none = c.in_default.ensures.cases.0 in
    let empty = none_left c.search.pending.items (omega arith) in
    search_end links c.args.list.now (has_bit c.search.row) (subst (IsSearching links c.args.list.now (has_bit c.search.row)) empty c.search.invariant)
