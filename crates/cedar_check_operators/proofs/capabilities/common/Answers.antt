use Rattle.std.proofs.Common.{◌≡◌, ◌++◌, [], drop_of_length-le, append-nil, arith, ap, sym, subst, ◌∙◌}
use Rattle.cedar_check_spec.specs.Capabilities.{AreKept}
use Rattle.cedar_check_spec.specs.Private.Checking.{common}
use Rattle.cedar_check_spec.proofs.Trees.{common_kept}
use Rattle.cedar_check_operators.specs.View.{held_view}
use Rattle.cedar_check_operators.proofs.capabilities.common.Goals as goal

pub returns : goal.returns
returns c =
    let one = held_view c.args.one.now in
    let two = held_view c.args.two.now in
    let both = held_view c.loop-capability.both.items in
    let rest : both ++ [] ≡ both = append-nil both in
    let all : both ≡ common one two =
    sym rest
    ∙ sym (ap (λ l. both ++ common (held_view l) two) (drop_of_length-le c.args.one.now {i = c.loop-capability.capability-index} (omega arith)))
    ∙ c.loop-capability.invariant in
    subst (AreKept one two) (sym all) (common_kept one two)
