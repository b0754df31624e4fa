use Rattle.std.proofs.Common.{◌≡◌}
use Rattle.std.specs.Bool.{Decides, one_answer}
use Rattle.cedar_ext.specs.Private.SamePattern.{same_pattern-Decides}
use Rattle.cedar_ext.proofs.Elements.{pointwise-Decides}
use Rattle.cedar_ext.proofs.pattern.PatternPartialEq.eq.Goals as goal

pub returns-clause-gives : goal.returns-clause-gives
returns-clause-gives c =
    let told : Decides c.eq.result (c.args.self.now ≡ c.args.other.now) = rw (c.eq.ensures, c.self.view_is, c.other.view_is) (pointwise-Decides _ _) in
    one_answer _ _ told (same_pattern-Decides c.args.self.now c.args.other.now)

pub returns-clause-equal : goal.returns-clause-equal
returns-clause-equal c =
    let told : Decides c.eq.result (c.args.self.now ≡ c.args.other.now) = rw (c.eq.ensures, c.self.view_is, c.other.view_is) (pointwise-Decides _ _) in
    told
