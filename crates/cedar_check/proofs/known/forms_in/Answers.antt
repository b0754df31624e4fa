use Rattle.std.proofs.Common.{Bor, map, take_all, ap, ◌∙◌}
use Rattle.cedar_schema_spec.specs.declared.environment.Environment.{Environment}
use Rattle.cedar_check.specs.Private.Signatures.{form_with}
use Rattle.cedar_check.proofs.Numbers.{known_from}
use Rattle.cedar_check.proofs.known.forms_in.Goals as goal

pub returns : goal.returns
returns c =
    let settings = c.args.settings in
    let s = c.args.schema.now in
    let e = c.args.condition.now in
    let examples = c.args.examples.now in
    known_from settings s e examples c.loop-example.forms.items c.requires
    (c.loop-example.invariant ∙ ap (map (λ (x : Bor Environment). form_with settings s x.now e)) (take_all c.loop-example.example-index examples c.loop-example-test.false))
