use Rattle.std.proofs.Common.{◌≡◌, Bor, length, slice_set, length-set, Some, arith, sym, ap, ◌∙◌}
use Rattle.std.specs.Prelude.{option_map}
use Rattle.cedar_ast_expressions.specs.Expression.{Expression}
use Rattle.cedar_check.specs.Private.Spine.{left_of}
use Rattle.cedar_check.proofs.Ways.{led_further}
use Rattle.cedar_check.proofs.spine.Spine.new.Goals as goal

pub loop-count-preserved : goal.loop-count-preserved
loop-count-preserved c =
    let long : length (slice_set c.loop-count.passed c.loop-count.count c.loop-count.last) ≡ length c.loop-count.passed = length-set c.loop-count.passed c.loop-count.count c.loop-count.last in
    let left : left_of c.loop-count.last.now ≡ Some c.in-Some.left.now = sym c.left_part.ensures ∙ ap (option_map (λ (x : Bor Expression). x.now)) c.in-Some.is in (
      long ∙ c.loop-count.invariant.0,
      omega (arith, c.loop-count-test.true),
      led_further c.args.expression.now c.in-Some.left.now c.loop-count.passed c.loop-count.count c.loop-count.last (omega (arith, c.loop-count-test.true, c.loop-count.invariant.0)) left c.loop-count.invariant.2,
    )

pub returns-clause-count : goal.returns-clause-count
returns-clause-count c = omega (arith, c.loop-count.invariant.0, c.loop-count.invariant.1)
