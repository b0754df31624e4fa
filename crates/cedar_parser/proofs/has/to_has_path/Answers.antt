use Rattle.std.proofs.Common.{◌<◌, ◌∙◌, sym, ap, length, arith}
use Rattle.cedar_ast_expressions.specs.Expression.{Expression, unary, and}
use Rattle.cedar_ast_expressions.specs.declared.operator.UnaryOperator.TheVariants.{Has}
use Rattle.cedar_parser_limits.proofs.AskedLemmas.{asked_next, asked_end}
use Rattle.cedar_parser.proofs.has.to_has_path.Goals as goal

pub loop-name-preserved : goal.loop-name-preserved
loop-name-preserved c =
    let within : c.loop-name.name-index < length c.args.more.now = omega arith in
    asked_next c.loop-name.asked.value c.loop-name.place.value c.in_ok-further.further.value c.in_ok-next.next.value c.args.more.now c.loop-name.name-index c.name-item.result within c.name-item.is
    (c.in_ok-further.ensures ∙ ap (λ (place : Expression). and c.loop-name.asked.value (unary (Has c.name-item.result) place)) c.deref-in-loop-name.ensures)
    c.in_ok-next.ensures
    ∙ c.loop-name.invariant

pub returns : goal.returns
returns c = sym (asked_end c.loop-name.asked.value c.loop-name.place.value c.args.more.now c.loop-name.name-index c.loop-name-test.false) ∙ c.loop-name.invariant
