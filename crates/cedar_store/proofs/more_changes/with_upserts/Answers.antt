use Rattle.std.proofs.Common.{◌≡◌, ◌++◌, ◌∷◌, [], length, arith, refl, sym, ap, ◌∙◌}
use Rattle.std.proofs.lemmas.List.{append-nil, append_assoc}
use Rattle.cedar_value.specs.World.{World, EntityTree, entry_of}
use Rattle.cedar_store.specs.Private.Called.{after_upsert}
use Rattle.cedar_store.specs.Private.Changing.{change_of}
use Rattle.cedar_store.proofs.MoreChanges.{upserts_more}
use Rattle.cedar_store.proofs.more_changes.with_upserts.Goals as goal

pub last-init : goal.last-init
last-init c = ([], append-nil _, λ u. refl)

pub last-preserved : goal.last-preserved
last-preserved c =
    let done = c.last.invariant.0 in
    let e = c.in-Some.entity in
    let same : c.pop.new.self.items ++ e ∷ done ≡ c.args.entities.items = sym (append_assoc c.pop.new.self.items (e ∷ []) done) ∙ ap (λ (es : World). es ++ done) (sym c.in-Some.ensures.items) ∙ c.last.invariant.1 in
    (e ∷ done, same, upserts_more done e c.in_ok-try_clone.field-0 c.last.changes c.in_ok-changes.changes (change_of c.args.old) (c.in_ok-try_clone.ensures ∙ ap (λ (x : EntityTree). x.uid) c.entity.view_is) c.last.invariant.2 c.in_ok-changes.ensures)

empty : (w : World) → length w ≡ 0 → w ≡ []
empty [] h = refl
empty (e ∷ w) h = absurd (omega arith)

pub returns : goal.returns
returns c =
    let sized = c.last.entities.ok.0 in
    let none = c.in_default.ensures.cases.0 in
    let all : c.last.invariant.0 ≡ c.args.entities.items = ap (λ (es : World). es ++ c.last.invariant.0) (sym (empty c.last.entities.items (omega arith))) ∙ c.last.invariant.1 in
    λ u. c.last.invariant.2 u ∙ ap (λ (es : World). after_upsert u (entry_of es u) (change_of c.args.old u)) all
