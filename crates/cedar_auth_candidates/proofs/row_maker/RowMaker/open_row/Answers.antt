use Rattle.std.proofs.Common.{subst, sym, ◌∙◌}
use Rattle.cedar_auth_candidates.specs.declared.row_maker.MadeRow.{MadeRow}
use Rattle.cedar_auth_candidates.specs.Private.Sifting.{ByPrincipal, RowCells}
use Rattle.cedar_auth_candidates.proofs.Made.{more_made}
use Rattle.cedar_auth_candidates.proofs.OpenActions.{within_row}
use Rattle.cedar_auth_candidates.proofs.row_maker.RowMaker.open_row.Goals as goal

pub returns-in-Some-clause-made : goal.returns-in-Some-clause-made
returns-in-Some-clause-made c =
    let s = c.args.schema.now in
    let ps = c.args.policies.now.policies in
    let index = c.args.self.now.cells in
    let ks = c.args.leaving.now in
    let one = c.in-Some.one.now in
    let a = c.args.action.now in
    subst (λ (m : RowCells). ByPrincipal s ps index ks a m) (sym c.in_ok-row.ensures)
    (within_row s ps index ks a one.action.now one.row.cells.value c.in-Some.ensures.types (c.requires c.digest_of-digest.result one c.in-Some.ensures.made))

pub returns-clause-kept : goal.returns-clause-kept
returns-clause-kept c =
    let s = c.args.schema.now in
    let ps = c.args.policies.now.policies in
    let index = c.args.self.now.cells in
    let ks = c.args.leaving.now in
    more_made (λ (one : MadeRow). ByPrincipal s ps index ks one.action.now one.row.cells.value) c.args.self.now.made c.insert.new.self c.digest_of-digest.result _ c.in_ok-insert.ensures.updates
    (subst (λ (m : RowCells). ByPrincipal s ps index ks c.args.action.now m) (sym (c.in_ok-again.ensures ∙ c.in_ok-row-2.ensures)) c.in_ok-by_principal.ensures.made) c.requires

pub returns-clause-made : goal.returns-clause-made
returns-clause-made c =
    subst (λ (m : RowCells). ByPrincipal c.args.schema.now c.args.policies.now.policies c.args.self.now.cells c.args.leaving.now c.args.action.now m) (sym c.in_ok-row-2.ensures) c.in_ok-by_principal.ensures.made
