use Rattle.std.proofs.Common.{◌≡◌, List, Contains, Some, sym, ap, subst, ◌∙◌}
use Rattle.std.specs.BTreeMap.{Updates}
use Rattle.std.specs.Map.{keys_of}
use Rattle.cedar_value.specs.Order.{uid_cmp}
use Rattle.cedar_value.specs.Private.Laws.{uid_total}
use Rattle.cedar_value.specs.Private.Same.{uid_same}
use Rattle.cedar_value.specs.declared.uid.Uid.{Uid}
use Rattle.cedar_schema_spec.specs.SchemaTree.{ActionTree, action_at}
use Rattle.cedar_auth_candidates.specs.Index.{IndexTree}
use Rattle.cedar_auth_candidates.specs.declared.row.Row.{Row}
use Rattle.cedar_auth_candidates.specs.Private.RowMaking.{AreRight}
use Rattle.cedar_auth_candidates.specs.Private.Sifting.{OfAction}
use Rattle.cedar_auth_candidates.proofs.CandidateRows.{row_right, rows_made}
use Rattle.base_reach.proofs.Listed.{here, there}
use Rattle.cedar_auth_candidates.proofs.Makings.{making_more}
use Rattle.cedar_auth_candidates.proofs.candidates.by_action.Goals as goal

pub row-requires-clause-right : goal.row-requires-clause-right
row-requires-clause-right c =
    subst (λ (i : IndexTree). AreRight c.args.schema.now c.args.policies.now.policies i c.in_ok-positions.positions.leaving.items c.loop-uid.maker.made) (sym c.loop-uid.invariant.same) c.loop-uid.invariant.right

pub loop-uid-preserved : goal.loop-uid-preserved
loop-uid-preserved c =
    let s = c.args.schema.now in
    let ps = c.args.policies.now.policies in
    let index = c.args.index.now in
    let u = c.in-Some.uid.now in
    let a = c.in-Some.action.now in
    let row = c.in_ok-row.row in
    let after = c.row.new.self in
    let same = c.loop-uid.invariant.same in
    let Right = λ (u : Uid) (row : Row). (action : ActionTree) → action_at s u ≡ Some action → OfAction s ps index u action row.cells.value in
    record {
      making = making_more uid_total uid_same Right c.loop-uid.rows c.insert.new.self (keys_of c.loop-uid.uid-iterator) (keys_of c.next.new.self) (keys_of s.actions) u row (ap (λ (es : List (Uid × ActionTree)). keys_of es) c.in-Some.ensures.steps)
          (subst (λ k. Updates uid_cmp c.loop-uid.rows c.insert.new.self k (Some row)) c.in_ok-try_clone.ensures c.in_ok-insert.ensures.updates)
          (row_right s ps index u a row.cells.value c.well_formedness.ensures.in_order.1
          (c.loop-uid.invariant.listed (u, a) (subst (λ (es : List (Uid × ActionTree)). Contains es (u, a)) (sym c.in-Some.ensures.steps) (here (u, a) c.next.new.self)))
          (subst (λ (i : IndexTree). OfAction s ps i u a row.cells.value) same c.in_ok-row.ensures.made))
          c.loop-uid.invariant.making;
      same = c.in_ok-row.ensures.same ∙ same;
      right = subst (λ (i : IndexTree). AreRight s ps i c.in_ok-positions.positions.leaving.items after.made) same c.in_ok-row.ensures.kept;
      listed = λ e m. c.loop-uid.invariant.listed e (subst (λ (es : List (Uid × ActionTree)). Contains es e) (sym c.in-Some.ensures.steps) (there (u, a) c.next.new.self e m));
    }

pub loop-uid-preserved-in_ok-insert : goal.loop-uid-preserved-in_ok-insert
loop-uid-preserved-in_ok-insert c =
    let s = c.args.schema.now in
    let ps = c.args.policies.now.policies in
    let index = c.args.index.now in
    let u = c.in-Some.uid.now in
    let a = c.in-Some.action.now in
    let row = c.in_ok-row.row in
    let after = c.row.new.self in
    let same = c.loop-uid.invariant.same in
    let Right = λ (u : Uid) (row : Row). (action : ActionTree) → action_at s u ≡ Some action → OfAction s ps index u action row.cells.value in
    record {
      making = making_more uid_total uid_same Right c.loop-uid.rows c.insert.new.self (keys_of c.loop-uid.uid-iterator) (keys_of c.next.new.self) (keys_of s.actions) u row (ap (λ (es : List (Uid × ActionTree)). keys_of es) c.in-Some.ensures.steps)
          (subst (λ k. Updates uid_cmp c.loop-uid.rows c.insert.new.self k (Some row)) c.in_ok-try_clone.ensures c.in_ok-insert.ensures.updates)
          (row_right s ps index u a row.cells.value c.well_formedness.ensures.in_order.1
          (c.loop-uid.invariant.listed (u, a) (subst (λ (es : List (Uid × ActionTree)). Contains es (u, a)) (sym c.in-Some.ensures.steps) (here (u, a) c.next.new.self)))
          (subst (λ (i : IndexTree). OfAction s ps i u a row.cells.value) same c.in_ok-row.ensures.made))
          c.loop-uid.invariant.making;
      same = c.in_ok-row.ensures.same ∙ same;
      right = subst (λ (i : IndexTree). AreRight s ps i c.in_ok-positions.positions.leaving.items after.made) same c.in_ok-row.ensures.kept;
      listed = λ e m. c.loop-uid.invariant.listed e (subst (λ (es : List (Uid × ActionTree)). Contains es e) (sym c.in-Some.ensures.steps) (there (u, a) c.next.new.self e m));
    }

pub returns : goal.returns
returns c = rows_made c.args.schema.now c.args.policies.now.policies c.args.index.now c.loop-uid.rows _ c.in-None.ensures.steps.0 c.loop-uid.invariant.making
