use Rattle.std.proofs.Common.{◌≡◌, length, ap, arith}
use Rattle.cedar_code.specs.Code.{code_of}
use Rattle.cedar_code.proofs.Sizes.{length-code_at}
use Rattle.cedar_code.proofs.compiler.compile.Goals as goal

pub returns-then-count-gt-MOST_INSTRUCTIONS-clause-too_long : goal.returns-then-count-gt-MOST_INSTRUCTIONS-clause-too_long
returns-then-count-gt-MOST_INSTRUCTIONS-clause-too_long c =
    λ _. omega (arith, length-code_at 0 c.args.expression.now)

pub invariant_of-result : goal.invariant_of-result
invariant_of-result c =
    let code : c.emit.new.code.items ≡ code_of c.args.expression.now = rw c.in_ok-instructions.ensures.items at c.in_ok-emit.ensures in
    let size_is = length-code_at 0 c.args.expression.now in
    record {
      source = c.args.expression.now;
      code = code;
      high = c.greatest_height-height.ensures.high;
      fits = omega (arith, ap length code);
    }

pub returns-clause-fits : goal.returns-clause-fits
returns-clause-fits c =
    let code : c.emit.new.code.items ≡ code_of c.args.expression.now = rw c.in_ok-instructions.ensures.items at c.in_ok-emit.ensures in
    omega (arith, ap length code, length-code_at 0 c.args.expression.now)
