use Rattle.std.proofs.Common.{ap, subst, ◌∙◌}
use Rattle.std.specs.Prelude.{◌≢◌, IfErr}
use Rattle.cedar_schema_spec.specs.SchemaTree.{SchemaTree}
use Rattle.cedar_conform_values.specs.declared.conform_fault.ConformFault.TheVariants.{OutOfMemory}
use Rattle.cedar_conform.specs.Parts.{PartsHaveFault, parts_of}
use Rattle.cedar_auth_spec.specs.Validation.{ValidatedTree}
use Rattle.cedar_auth.proofs.ready.Ready.read_fitting_parts.Goals as goal

pub returns-clause-refused : goal.returns-clause-refused
returns-clause-refused c =
    let same = c.schema.ensures.value ∙ ap (λ (v : ValidatedTree). v.schema) c.validated.ensures in
    subst (λ (s : SchemaTree). IfErr c.read_fitting_parts.result (λ e. e ≢ OutOfMemory → PartsHaveFault s (parts_of c.args.parts.now) e)) same c.read_fitting_parts.ensures.refused
