use Rattle.std.proofs.Common.{ℕ, List, subst, sym}
use Rattle.std.proofs.lemmas.Result.{IfOk-weaker}
use Rattle.cedar_check_operators.specs.View.{held_view}
use Rattle.cedar_check_diagnostics.specs.Refusals.{IsUntypedAt}
use Rattle.cedar_check_diagnostics.proofs.refusal.untyped_part.Goals as goal

pub returns : goal.returns
returns c =
    let u = c.in_ok-untyped.untyped in
    IfOk-weaker c.explained.result _ _
    (λ r h. subst (λ (l : List ℕ). IsUntypedAt c.args.checking.settings c.args.checking.schema.now c.args.checking.environment.now c.args.condition.now l) (sym h) (record {
      held = held_view u.held.items;
      part = u.part.now;
      leads = c.in_ok-untyped.ensures.leads;
      untyped = c.in_ok-untyped.ensures.untyped;
      smallest = c.in_ok-untyped.ensures.smallest;
    })) c.explained.ensures
