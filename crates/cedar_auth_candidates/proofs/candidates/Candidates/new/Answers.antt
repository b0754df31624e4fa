use Rattle.std.proofs.Common.{List, subst, sym}
use Rattle.cedar_schema_spec.specs.declared.environment.Environment.{Environment}
use Rattle.cedar_auth_candidates.specs.Private.Sifting.{AreCellsOf, HaveCells}
use Rattle.cedar_auth_candidates.proofs.CandidateRows.{candidates_for, have_cells}
use Rattle.cedar_auth_candidates.proofs.candidates.Candidates.new.Goals as goal

pub by_environment-requires : goal.by_environment-requires
by_environment-requires c =
    subst (λ (es : List Environment). HaveCells c.in_ok-rows.rows es) (sym c.environments.ensures)
    (have_cells c.args.schema.now c.args.policies.now.policies c.in_ok-index.index c.in_ok-rows.rows c.in_ok-rows.ensures c.well_formedness.ensures.in_order.1)

pub returns : goal.returns
returns c =
    candidates_for c.args.schema.now c.args.policies.now.policies c.in_ok-index.index c.in_ok-rows.rows c.in_ok-cells.cells.items c.in_ok-index.ensures c.in_ok-rows.ensures c.well_formedness.ensures.in_order.1
    (subst (λ (es : List Environment). AreCellsOf c.in_ok-rows.rows es c.in_ok-cells.cells.items) c.environments.ensures c.in_ok-cells.ensures)
