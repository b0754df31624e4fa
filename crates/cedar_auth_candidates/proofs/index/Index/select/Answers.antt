use Rattle.std.proofs.Common.{ℕ, List, Contains, subst, sym, ◌∙◌}
use Rattle.cedar_auth_candidates.specs.Index.{HasReached, IndexTree}
use Rattle.cedar_auth_candidates.proofs.ListedPositions.{stays, is_added, listed_alone}
use Rattle.cedar_auth_candidates.proofs.Selected.{selected}
use Rattle.cedar_auth_candidates.proofs.index.Index.select.Goals as goal

pub returns-clause-reached : goal.returns-clause-reached
returns-clause-reached c =
    let listing = c.args.listing.now in
    let third = c.push_listed-2.new.selection in
    let kept = c.keep.new.self in
    let fourth = c.add.new.self in
    let grown = c.in_ok-add.ensures in
    subst (λ (i : IndexTree). HasReached i listing c.args.request.now c.args.store.now c.sort.new.self) c.self.view_is
    (λ ps is by k p among at reached.
    selected c.self.inside.tables listing c.args.request.now c.args.store.now p k c.push_listed.new.selection third fourth c.sort.new.self
    (λ some. c.in_ok-push_listed.ensures.reached (c.by_principal.ensures ∙ some)) c.in_ok-push_listed-2.ensures.kept (λ some. c.in_ok-push_listed-2.ensures.reached (c.by_resource.ensures ∙ some))
    (λ j m l. stays c.row.result.now third c.unnamed.result.now kept fourth c.keep.ensures grown j m (c.row.ensures.bits j l))
    (λ j m. is_added kept c.unnamed.result.now fourth grown j (subst (λ (ys : List ℕ). Contains ys j) (sym c.unnamed.ensures.value) m))
    c.sort.ensures.kept by among reached (is k p at))

pub returns-clause-within : goal.returns-clause-within
returns-clause-within c =
    listed_alone c.row.result.now c.push_listed-2.new.selection c.unnamed.result.now c.keep.new.self c.add.new.self c.sort.new.self c.args.listing.now.positions
    c.keep.ensures c.in_ok-add.ensures c.row.ensures.alone c.unnamed.ensures.among c.sort.ensures.among
