use Rattle.std.proofs.Common.{rules, arith, Err, ap, sym, ◌∙◌}
use Rattle.std.proofs.lemmas.Grind.{common_steps}
use Rattle.serde_json.specs.View.{members_view}
use Rattle.cedar_schema_text.specs.declared.fault.SchemaTextFault.TheVariants as f
use Rattle.cedar_schema_text.specs.Grammar as spec
use Rattle.cedar_schema_text.proofs.Turns.{deeper, none_deep}
use Rattle.cedar_schema_text.proofs.schema_type.+read_levels.Goals as goal

pub read_levels-returns-then-levels-eq0 : goal.read_levels-returns-then-levels-eq0
unfolding spec.type_onto
read_levels-returns-then-levels-eq0 t c =
    none_deep (λ n. spec.type_onto n (members_view c.args.found.now.entries) c.args.tokens.now) c.args.levels (omega arith) ∙ ap (λ at. Err (f.Syntax at)) (sym c.place.ensures)

pub read_levels-returns-then-sees : goal.read_levels-returns-then-sees
unfolding spec.type_onto spec.form_onto
read_levels-returns-then-sees t c =
    rw (deeper (λ n. spec.type_onto n (members_view c.args.found.now.entries) c.args.tokens.now) c.args.levels (omega arith)) (first_of (search rules, grind (arith, common_steps)))

pub read_levels-returns : goal.read_levels-returns
unfolding spec.type_onto spec.form_onto
read_levels-returns t c =
    rw (deeper (λ n. spec.type_onto n (members_view c.args.found.now.entries) c.args.tokens.now) c.args.levels (omega arith)) (first_of (search rules, grind (arith, common_steps)))
