use Rattle.std.proofs.Common.{subst}
use Rattle.std.specs.Prelude.{◌↔◌, IsTrue}
use Rattle.cedar_value.specs.Datum.{record_of, fields_of}
use Rattle.cedar_schema_types.specs.Membership.{Member}
use Rattle.cedar_schema_types.specs.Types.{TypeTree}
use Rattle.cedar_conform.proofs.FitLemmas.{fits_here, fits_not, no_member_fits}
use Rattle.cedar_conform.proofs.fitting.fits.Goals as goal

pub returns-then-is_record_member : goal.returns-then-is_record_member
returns-then-is_record_member c =
    fits_here c.args.schema.now c.args.request.now c.well_formedness.ensures.in_order.1 c.in-Some.ty.now c.in-Some.ensures c.is_record_member.result
    (subst (λ (t : TypeTree). IsTrue c.is_record_member.result ↔ Member t (record_of (fields_of c.args.request.now.context))) c.record_type.ensures c.is_record_member.ensures)
    c.if-is_record_member.true c.lists_request.result c.lists_request.ensures

pub returns-else-is_record_member : goal.returns-else-is_record_member
returns-else-is_record_member c =
    no_member_fits c.args.schema.now c.args.request.now c.well_formedness.ensures.in_order.1 c.in-Some.ty.now c.in-Some.ensures c.is_record_member.result
    (subst (λ (t : TypeTree). IsTrue c.is_record_member.result ↔ Member t (record_of (fields_of c.args.request.now.context))) c.record_type.ensures c.is_record_member.ensures)
    c.if-is_record_member.false

pub returns-in-None : goal.returns-in-None
returns-in-None c = fits_not c.args.schema.now c.args.request.now c.in-None.ensures
