use Rattle.std.proofs.Common.{ap, arith}
use Rattle.cedar_check_operators.specs.View.{held_view, typed_view, typing_view}
use Rattle.cedar_check_diagnostics.proofs.Members.{first_joined}
use Rattle.cedar_check_diagnostics.proofs.looking.untyped_member.Goals as goal

pub untyped_other-requires : goal.untyped_other-requires
untyped_other-requires c =
    first_joined c.args.checking.settings c.args.checking.schema.now c.args.checking.environment.now (held_view c.args.held.now) c.args.members.now c.index-members-0.result (typing_view c.in_ok-typing.typing) (typed_view c.in-Typed.x) (first_of (omega arith, grind (arith, c.if-is_empty.ensures)))
    c.index-members-0.is c.in_ok-typing.ensures (ap typing_view c.in-Typed.is)
