use Rattle.std.proofs.Common.{◌≡◌, ◌∷◌, [], false, List, map, arith, sym, ap, subst, ◌∙◌}
use Rattle.std.proofs.lemmas.List.{append-nil}
use Rattle.cedar_store.specs.Private.Changing.{ChangeTree, is_needed, seen}
use Rattle.cedar_store.proofs.Swept.{once_there, swept_passed, taken_all, taken_last}
use Rattle.cedar_store.proofs.sweeping.swept.Goals as goal

pub last-init : goal.last-init
last-init c = ([], append-nil _ ∙ c.in_ok-all.ensures, λ u. ap (λ (cs : List ChangeTree). seen c.args.base.now.world cs u) c.none-changes.ensures)

pub last-preserved : goal.last-preserved
last-preserved c =
    let w = c.args.base.now.world in
    let d = c.in-Some.change.value in
    let done = c.last.invariant.0 in
    let same = taken_last (λ a. a.value) c.last.all.items c.pop.new.self.items c.in-Some.change done c.args.old.now c.in-Some.ensures.items c.last.invariant.1 in
    let idle = subst (λ (x : ChangeTree). is_needed w x ≡ false) c.deref.ensures (sym c.is_needed.ensures ∙ c.if-is_needed.false) in
    (d ∷ done, same, swept_passed w d done c.last.changes idle (once_there (map (λ a. a.value) c.pop.new.self.items) done c.args.old.now d same c.facts.ensures.distinct) c.last.invariant.2)

pub returns : goal.returns
returns c =
    let w = c.args.base.now.world in
    let sized = c.last.all.ok.0 in
    let none = c.in_default.ensures.cases.0 in
    let all = taken_all (λ a. a.value) c.last.all.items c.last.invariant.0 c.args.old.now (omega arith) c.last.invariant.1 in
    λ u. ap (λ (cs : List ChangeTree). seen w cs u) c.with_none_idle.ensures ∙ c.last.invariant.2 u ∙ ap (λ (cs : List ChangeTree). seen w cs u) all
