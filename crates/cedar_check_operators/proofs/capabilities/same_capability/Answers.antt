use Rattle.std.proofs.Common.{sym, ◌∙◌}
use Rattle.cedar_check_operators.specs.View.{capability_view}
use Rattle.cedar_check_operators.proofs.Heights.{apart}
use Rattle.cedar_check_operators.proofs.capabilities.same_capability.Goals as goal

pub returns-then-one-two : goal.returns-then-one-two
returns-then-one-two c =
    sym (apart (capability_view c.args.one) (capability_view c.args.two) (λ same. c.if-one-two.true (c.args.one.measured ∙ same ∙ sym c.args.two.measured)))
