use Rattle.std.proofs.Common.{Bor, IfOk, List, ap, subst, sym, ◌≡◌, ◌∙◌}
use Rattle.cedar_ast_expressions.specs.Expression.{Expression}
use Rattle.cedar_schema_spec.specs.declared.environment.Environment.{Environment}
use Rattle.cedar_check.specs.Private.Condition.{first_in}
use Rattle.cedar_check.specs.Private.Signatures.{AreKnown}
use Rattle.cedar_check.proofs.fault.known_forms.Goals.{in-Open, in-Parts+else-is_none}
use Rattle.cedar_check.proofs.fault.known_forms.Goals as goal

pub returns : goal.returns
returns c =
    let settings = c.args.settings in
    let s = c.args.schema.now in
    let same : c.match-condition.first.now ≡ first_in c.args.condition = elim c.match-condition.branch [
      | in-Open w ↦ ap (λ (e : Bor Expression). e.now) w.first-is ∙ sym (ap first_in w.in-Open.is)
      | in-Parts+else-is_none w ↦ ap (λ (e : Bor Expression). e.now) w.first-is ∙ sym (ap first_in w.in-Parts.is)
    ] in
    subst (λ (examples : List (Bor Environment)). IfOk c.forms_in.result (λ v. AreKnown settings s (first_in c.args.condition) examples v.items)) c.deref.ensures.value
    (subst (λ (e : Expression). IfOk c.forms_in.result (λ v. AreKnown settings s e c.deref.result.now v.items)) same c.forms_in.ensures)
