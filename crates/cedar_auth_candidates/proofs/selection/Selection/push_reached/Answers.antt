use Rattle.std.proofs.Common.{◌≡◌, ◌++◌, ℕ, List, map, ⊎_elim, Contains, ap, sym, subst, ◌∙◌}
use Rattle.std.proofs.lemmas.List.{map-append}
use Rattle.std.proofs.lemmas.List.Elements.{Contains-append_right}
use Rattle.std.specs.Borrow.{Bor}
use Rattle.cedar_value.specs.declared.uid.Uid.{Uid}
use Rattle.cedar_auth_candidates.specs.Private.Kept.{list_at}
use Rattle.cedar_auth_candidates.proofs.Gathering.{lent_at}
use Rattle.cedar_auth_candidates.proofs.selection.Selection.push_reached.Goals as goal

-- what was appended is in the list
added_there : (old new added : List (Bor Uid)) (u : Uid) → new ≡ old ++ added → Contains (map (λ b. b.now) added) u → Contains (map (λ b. b.now) new) u
added_there old new added u is there =
    subst (λ (us : List Uid). Contains us u) (sym (ap (map (λ (b : Bor Uid). b.now)) is ∙ map-append (λ (b : Bor Uid). b.now) old added))
    (Contains-append_right (map (λ (b : Bor Uid). b.now) old) (map (λ (b : Bor Uid). b.now) added) u there)

pub returns-in_ok-push_lists-clause-kept : goal.returns-in_ok-push_lists-clause-kept
returns-in_ok-push_lists-clause-kept c = λ k m.
    c.in_ok-push_lists.ensures.kept k (c.in_ok-push_list.ensures.kept k (subst (λ (ks : List ℕ). Contains ks k) (sym c.self.view_is) m))

pub returns-in_ok-push_lists-clause-reached : goal.returns-in_ok-push_lists-clause-reached
returns-in_ok-push_lists-clause-reached c = λ u h k m.
    let lists = c.args.lists.now in
    ⊎_elim
    (λ e. c.in_ok-push_lists.ensures.kept k (c.in_ok-push_list.ensures.added k (subst (λ (x : Uid). Contains (list_at lists x) k) (sym e) m)))
    (λ below.
    let adds = c.in_ok-ancestors.ensures.adds in
    let found = lent_at c.ancestors.new.found.items u (added_there _ _ adds.added u adds.appended ((adds.above u).1 below)) in
    c.in_ok-push_lists.ensures.added found.0 (subst (λ (us : List (Bor Uid)). Contains us found.0) (sym c.deref.ensures.value) found.1) k (subst (λ (x : Uid). Contains (list_at lists x) k) (sym found.2) m))
    h

pub returns-in_ok-push_below-clause-reached : goal.returns-in_ok-push_below-clause-reached
returns-in_ok-push_below-clause-reached c = λ u h k m.
    ⊎_elim
    (λ e. c.in_ok-push_below.ensures.kept k (c.in_ok-push_list.ensures.added k (subst (λ (x : Uid). Contains (list_at c.args.lists.now x) k) (sym e) m)))
    (λ below. c.in_ok-push_below.ensures.added u below k m)
    h
