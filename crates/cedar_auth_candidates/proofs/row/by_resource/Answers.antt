use Rattle.std.proofs.Common.{Some, subst, ◌∙◌}
use Rattle.std.specs.BTreeMap.{Updates}
use Rattle.std.proofs.lemmas.Cmp.{nat_list_cmp_total}
use Rattle.cedar_value.specs.Order.{text_cmp}
use Rattle.cedar_value.specs.Private.Same.{text_same}
use Rattle.cedar_auth_candidates.specs.Index.{IndexTree}
use Rattle.cedar_auth_candidates.specs.Private.Sifting.{OfResource}
use Rattle.cedar_auth_candidates.proofs.Makings.{making_more, making_end}
use Rattle.cedar_auth_candidates.proofs.row.by_resource.Goals as goal

pub loop-ty-preserved : goal.loop-ty-preserved
loop-ty-preserved c = (
  c.in_ok-cell.ensures.same ∙ c.loop-ty.invariant.0,
  making_more nat_list_cmp_total text_same (OfResource c.args.schema.now c.args.policies.now.policies c.args.cells.now c.args.positions.now) c.loop-ty.row c.insert.new.self c.loop-ty.ty-iterator c.next.new.self c.args.resources.now.keys c.in-Some.ty.now c.in_ok-cell.cell c.in-Some.ensures.steps
      (subst (λ k. Updates text_cmp c.loop-ty.row c.insert.new.self k (Some c.in_ok-cell.cell)) c.in_ok-try_clone.ensures c.in_ok-insert.ensures.updates) (subst (λ (i : IndexTree). OfResource c.args.schema.now c.args.policies.now.policies i c.args.positions.now c.in-Some.ty.now c.in_ok-cell.cell) c.loop-ty.invariant.0 c.in_ok-cell.ensures.made) c.loop-ty.invariant.1,
)

pub loop-ty-preserved-in_ok-insert : goal.loop-ty-preserved-in_ok-insert
loop-ty-preserved-in_ok-insert c = (
  c.in_ok-cell.ensures.same ∙ c.loop-ty.invariant.0,
  making_more nat_list_cmp_total text_same (OfResource c.args.schema.now c.args.policies.now.policies c.args.cells.now c.args.positions.now) c.loop-ty.row c.insert.new.self c.loop-ty.ty-iterator c.next.new.self c.args.resources.now.keys c.in-Some.ty.now c.in_ok-cell.cell c.in-Some.ensures.steps
      (subst (λ k. Updates text_cmp c.loop-ty.row c.insert.new.self k (Some c.in_ok-cell.cell)) c.in_ok-try_clone.ensures c.in_ok-insert.ensures.updates) (subst (λ (i : IndexTree). OfResource c.args.schema.now c.args.policies.now.policies i c.args.positions.now c.in-Some.ty.now c.in_ok-cell.cell) c.loop-ty.invariant.0 c.in_ok-cell.ensures.made) c.loop-ty.invariant.1,
)

pub returns-clause-same : goal.returns-clause-same
returns-clause-same c = c.loop-ty.invariant.0

pub returns-clause-made : goal.returns-clause-made
returns-clause-made c =
    making_end nat_list_cmp_total text_same (OfResource c.args.schema.now c.args.policies.now.policies c.args.cells.now c.args.positions.now) c.loop-ty.row _ c.args.resources.now.keys c.in-None.ensures.steps.0 c.loop-ty.invariant.1
