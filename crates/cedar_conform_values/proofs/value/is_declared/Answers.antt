use Rattle.std.proofs.Common.{◌∙◌}
use Rattle.cedar_conform_values.proofs.FieldLemmas.{is_declared-found}
use Rattle.cedar_conform_values.proofs.value.is_declared.Goals as goal

pub returns : goal.returns
returns c = c.is_some.ensures ∙ is_declared-found (λ x. x.now) c.attribute.result c.args.key.now c.args.attributes.now c.attribute.ensures
