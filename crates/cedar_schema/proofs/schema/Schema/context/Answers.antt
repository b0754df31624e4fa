use Rattle.std.proofs.Common.{◌≡◌, true, false, sym, subst, ◌∙◌}
use Rattle.cedar_schema_types.specs.Types.{TypeTree}
use Rattle.cedar_schema_spec.specs.SchemaTree.{HasEnvironment}
use Rattle.cedar_schema.proofs.EnvironmentLemmas.{environment_there, none_declared, not_applied}
use Rattle.cedar_schema.proofs.schema.Schema.context.Goals as goal

pub returns-in_default : goal.returns-in_default
returns-in_default c =
    none_declared c.args.self.now.actions c.well_formedness.ensures.in_order.1 c.args.action.now c.args.principal.now c.args.resource.now (sym c.in_default.ensures)

pub returns-then-applies_to : goal.returns-then-applies_to
returns-then-applies_to c =
    let both = c.applies_to.ensures.0 c.if-applies_to.true in
    subst (λ (t : TypeTree). HasEnvironment c.args.self.now.actions c.args.action.now c.args.principal.now c.args.resource.now t) (sym c.context.ensures)
    (environment_there c.args.self.now.actions c.args.action.now c.in-Some.found.now c.args.principal.now c.args.resource.now (sym c.in-Some.ensures) both.0 both.1)

pub returns-else-applies_to : goal.returns-else-applies_to
returns-else-applies_to c =
    not_applied c.args.self.now.actions c.well_formedness.ensures.in_order.1 c.args.action.now c.in-Some.found.now c.args.principal.now c.args.resource.now (sym c.in-Some.ensures)
    (λ both. let told : true ≡ false = sym (c.applies_to.ensures.1 both) ∙ c.if-applies_to.false in cc)
