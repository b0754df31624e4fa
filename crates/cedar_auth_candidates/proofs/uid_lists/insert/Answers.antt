use Rattle.std.proofs.Common.{rules, ℕ, List, [], ◌∷◌, Contains, sym, subst}
use Rattle.std.proofs.lemmas.List.Elements.{Contains-append_left}
use Rattle.cedar_auth_candidates.specs.Private.Kept.{KeepsAll, Lists}
use Rattle.cedar_auth_candidates.proofs.Entering.{kept_by, holds_found}
use Rattle.cedar_auth_candidates.proofs.uid_lists.insert.Goals as goal

pub returns-in_ok-push-in-Some-clause-kept : goal.returns-in_ok-push-in-Some-clause-kept
returns-in_ok-push-in-Some-clause-kept c =
    let old = c.args.lists.now in
    let list = c.in-Some.list.now in
    let pushed = c.push.new.self in
    kept_by old (c.get_mut.follows.lender pushed) c.args.uid.now pushed ((c.get_mut.follows.holds pushed).3 (search rules))
    (holds_found old c.args.uid.now list pushed.items c.in-Some.ensures.value
    (λ k m. subst (λ (ks : List ℕ). Contains ks k) (sym c.in_ok-push-in-Some.ensures.items) (Contains-append_left list.items (c.args.position ∷ []) k m)))

pub returns-in_ok-insert_first-in-None-clause-kept : goal.returns-in_ok-insert_first-in-None-clause-kept
returns-in_ok-insert_first-in-None-clause-kept c =
    subst (λ (old : Lists). KeepsAll old c.insert_first.new.lists) c.get_mut.follows.holds-at-none c.in_ok-insert_first-in-None.ensures.kept
