use Rattle.std.proofs.Common.{sym, ◌∙◌}
use Rattle.cedar_conform_values.proofs.MemberTold.{record_told}
use Rattle.cedar_conform_values.proofs.membership.is_record_member.Goals as goal

pub returns : goal.returns
returns c =
    let told = record_told c.args.ty.now c.args.record.now c.order.ensures c.well_formedness.ensures.ascending c.well_formedness.ensures.values in
    let tested = rw (c.attributes.ensures.attributes, c.pairs.ensures.pairs) at c.are_fields.ensures in
    (λ e. told.0 (sym tested ∙ e), λ h. tested ∙ told.1 h)
