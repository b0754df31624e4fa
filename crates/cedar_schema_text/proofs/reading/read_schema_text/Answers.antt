use Rattle.std.proofs.Common.{rules, arith, subst, ap, sym, ◌∙◌}
use Rattle.std.proofs.lemmas.Grind.{common_steps}
use Rattle.cedar_schema_text.specs.Marks.{marks}
use Rattle.cedar_schema_text.specs.SchemaText.{HasTokens}
use Rattle.cedar_schema_text.proofs.Whole.{only_by, only_without}
use Rattle.cedar_schema_text.proofs.reading.read_schema_text.Goals as goal

pub returns-in_err-tokens-clause-only : goal.returns-in_err-tokens-clause-only
returns-in_err-tokens-clause-only c =
    λ d i. let h = only_without c.args.text.now c.in_err-tokens.field-0.0 c.in_err-tokens.ensures.fault d i in first_of (search rules, grind (arith, common_steps))

pub returns-clause-only : goal.returns-clause-only
returns-clause-only c =
    let same = ap marks (sym c.deref.ensures.value) ∙ sym c.new.ensures in
    only_by c.one_spelling.ensures c.args.text.now c.new.result c.read_schema.new.tokens c.read_schema.result (subst (HasTokens c.args.text.now) same c.in_ok-tokens.ensures.found) c.read_schema.ensures
