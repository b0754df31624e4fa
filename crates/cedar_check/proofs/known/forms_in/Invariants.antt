use Rattle.std.proofs.Common.{◌≡◌, Bor, map, take}
use Rattle.cedar_schema_spec.specs.declared.environment.Environment.{Environment}
use Rattle.cedar_check.specs.Private.Signatures.{form_with}
use Rattle.cedar_check.specs.Private.View.{form_view}
use Rattle.cedar_check.proofs.known.forms_in.Given as goal

abbrev pub invariant-loop-example : goal.invariant-loop-example
invariant-loop-example l = map form_view l.forms.items ≡ map (λ (x : Bor Environment). form_with l.settings l.schema x.now l.condition) (take l.example-index l.examples)
