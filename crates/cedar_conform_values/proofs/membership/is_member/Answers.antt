use Rattle.std.proofs.Common.{sym, ◌∙◌}
use Rattle.cedar_conform_values.proofs.MemberTold.{member_told}
use Rattle.cedar_conform_values.proofs.membership.is_member.Goals as goal

pub returns : goal.returns
returns c =
    let told = member_told c.args.ty.now c.args.value.now c.order.ensures c.well_formedness.ensures in
    (λ e. told.0 (sym c.belongs.ensures ∙ e), λ h. c.belongs.ensures ∙ told.1 h)
