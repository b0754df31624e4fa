use Rattle.std.proofs.Common.{◌≡◌, ◌++◌, true, false, sym, ap, subst, ◌∙◌, refl, arith}
use Rattle.std.specs.BTreeSet.{contains}
use Rattle.base_reach.specs.Private.Lent.{lent}
use Rattle.base_reach.proofs.Searching.{Gains, Gains-updates, IsSearching, search_start, search_known, search_new, search_end, search_smaller, lent-push, none_lent, not_true, not_false}
use Rattle.base_reach.proofs.search.closure_from.Goals as goal

pub search-init : goal.search-init
search-init g c =
    search_start (g.G.Links.links c.args.graph.now) c.args.from.now (contains g.K.Ord.cmp c.new-found.result) (lent c.push_all.new.pending.items) (λ v. rw c.new-found.ensures.empty refl)
    (c.in_ok-push_all.ensures ∙ ap (λ l. lent l ++ c.links.result.now) c.new-pending.ensures.items ∙ c.links.ensures)

pub search-smaller-in_ok-push_all-2 : goal.search-smaller-in_ok-push_all-2
search-smaller-in_ok-push_all-2 g c =
    let R = g.K.Ord.cmp in
    let key = c.in_ok-try_clone.ensures in
    let gains : Gains (contains R c.search.found) (contains R c.insert.new.self) c.in-Some.next.now = subst (Gains (contains R c.search.found) (contains R c.insert.new.self)) key (Gains-updates R g.met.K.Key.ties c.search.found c.insert.new.self c.in_ok-try_clone.field-0 c.in_ok-insert.ensures.updates) in
    let absent : contains R c.search.found c.in-Some.next.now ≡ false = subst (λ u. contains R c.search.found u ≡ false) key (not_true _ (sym c.in_ok-insert.ensures.added ∙ c.if-branch.true)) in
    search_smaller (g.G.Links.links c.args.graph.now) (g.G.Links.sources c.args.graph.now) (g.met.G.Links.listed c.args.graph.now) (contains R c.search.found) (contains R c.insert.new.self) c.search.pending.items c.pop.new.self.items c.push_all-then-branch.new.pending.items c.in-Some.next gains absent c.in-Some.ensures.items
    (c.in_ok-push_all-2.ensures ∙ ap (λ l. lent c.pop.new.self.items ++ l) c.links-then-branch.ensures)

pub search-preserved-in_ok-push_all-2 : goal.search-preserved-in_ok-push_all-2
search-preserved-in_ok-push_all-2 g c =
    let R = g.K.Ord.cmp in
    let links = g.G.Links.links c.args.graph.now in
    let gains : Gains (contains R c.search.found) (contains R c.insert.new.self) c.in-Some.next.now = subst (Gains (contains R c.search.found) (contains R c.insert.new.self)) c.in_ok-try_clone.ensures (Gains-updates R g.met.K.Key.ties c.search.found c.insert.new.self c.in_ok-try_clone.field-0 c.in_ok-insert.ensures.updates) in
    let before = lent-push c.search.pending.items c.pop.new.self.items c.in-Some.next c.in-Some.ensures.items in
    search_new links c.args.from.now c.in-Some.next.now (contains R c.search.found) (contains R c.insert.new.self) (lent c.pop.new.self.items) (lent c.push_all-then-branch.new.pending.items) gains
    (c.in_ok-push_all-2.ensures ∙ ap (λ l. lent c.pop.new.self.items ++ l) c.links-then-branch.ensures)
    (subst (IsSearching links c.args.from.now (contains R c.search.found)) before c.search.invariant)

pub search-preserved : goal.search-preserved
search-preserved g c =
    let R = g.K.Ord.cmp in
    let links = g.G.Links.links c.args.graph.now in
    let key = c.in_ok-try_clone.ensures in
    let gains : Gains (contains R c.search.found) (contains R c.insert.new.self) c.in-Some.next.now = subst (Gains (contains R c.search.found) (contains R c.insert.new.self)) key (Gains-updates R g.met.K.Key.ties c.search.found c.insert.new.self c.in_ok-try_clone.field-0 c.in_ok-insert.ensures.updates) in
    let known : contains R c.search.found c.in-Some.next.now ≡ true = subst (λ u. contains R c.search.found u ≡ true) key (not_false _ (sym c.in_ok-insert.ensures.added ∙ c.if-branch.false)) in
    let before = lent-push c.search.pending.items c.pop.new.self.items c.in-Some.next c.in-Some.ensures.items in
    search_known links c.args.from.now c.in-Some.next.now (contains R c.search.found) (contains R c.insert.new.self) (lent c.pop.new.self.items) gains known
    (subst (IsSearching links c.args.from.now (contains R c.search.found)) before c.search.invariant)

pub returns : goal.returns
returns g c =
    let links = g.G.Links.links c.args.graph.now in
    let test = contains g.K.Ord.cmp c.search.found in
    let sized = c.search.pending.ok.0 in
    let none = c.in_default.ensures.cases.0 in
    let empty = none_lent c.search.pending.items (omega arith) in
    search_end links c.args.from.now test (subst (IsSearching links c.args.from.now test) empty c.search.invariant)
