use Rattle.std.proofs.Common.{◌≡◌, ◌+◌, ◌-◌, ◌∙◌, ℕ, Bor, ap, arith, drop, length, sym, ◌⊎◌, Contains, List, subst, take}
use Rattle.std.proofs.lemmas.List.{take_all}
use Rattle.base_reach.specs.Private.Lent.{lent}
use Rattle.cedar_value.specs.World.{Below}
use Rattle.cedar_value.specs.declared.uid.Uid.{Uid}
use Rattle.cedar_store.specs.Private.Gathered.{Gathers}
use Rattle.cedar_store.specs.Private.Overlaid.{world_over}
use Rattle.cedar_store.proofs.Gathered.{Gathers-on, KeepsFirst-on, slice_rest, some_more}
use Rattle.cedar_store.proofs.overlay.Overlay.gather_parents.Goals as goal

pub gather-requires-clause-apart : goal.gather-requires-clause-apart
gather-requires-clause-apart c =
    let us = c.loop-parent.found.items in
    let whole : c.len-end.result ≡ length us = omega arith in
    let rest = ap (λ (k : ℕ). take (k - c.args.begun) (drop c.args.begun us)) whole ∙ slice_rest c.args.begun us in
    λ m. subst (λ (l : List (Bor Uid)). Contains (lent l) c.parent-item.result) (sym rest) m

pub loop-parent-preserved : goal.loop-parent-preserved
loop-parent-preserved c =
    let w = world_over c.args.self.now.base.now.world c.args.self.now.changes.now in
    let ps = c.args.parents.now in
    let i = c.loop-parent.parent-index in
    let u = c.parent-item.result in
    let begun = c.args.begun in
    let first = c.args.found.now.items in
    let old = c.loop-parent.found.items in
    let mid = c.gather.new.found.items in
    let new = c.gather_above.new.found.items in
    let both = Gathers-on begun old mid new (λ v. u ≡ v) (λ v. Below w u v) (λ v. (u ≡ v) ⊎ Below w u v) c.in_ok-gather.ensures.gathers c.in_ok-gather_above.ensures.gathers (λ v. (λ h. h, λ h. h)) in (
      KeepsFirst-on begun first old new c.loop-parent.invariant.0 (KeepsFirst-on begun old mid new (c.gather.ensures.kept begun c.loop-parent.invariant.0.1) c.gather_above.ensures.kept),
      Gathers-on begun first old new (λ v. (p : Uid) × Contains (take i ps) p × ((p ≡ v) ⊎ Below w p v)) (λ v. (u ≡ v) ⊎ Below w u v) (λ v. (p : Uid) × Contains (take (i + 1) ps) p × ((p ≡ v) ⊎ Below w p v)) c.loop-parent.invariant.1 both
          (λ v. some_more ps i u (λ p. (p ≡ v) ⊎ Below w p v) c.loop-parent-test.true c.parent-item.is),
    )

pub returns-clause-gathers : goal.returns-clause-gathers
returns-clause-gathers c =
    let w = world_over c.args.self.now.base.now.world c.args.self.now.changes.now in
    let all = take_all c.loop-parent.parent-index c.args.parents.now c.loop-parent-test.false in
    subst (λ (ps : List Uid). Gathers c.args.begun c.args.found.now.items c.loop-parent.found.items (λ v. (p : Uid) × Contains ps p × ((p ≡ v) ⊎ Below w p v))) all c.loop-parent.invariant.1
