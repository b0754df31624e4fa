use Rattle.std.proofs.Common.{Ok, Err}
use Rattle.cedar_conform.proofs.RequestLemmas.{line_fits, only_line}
use Rattle.cedar_conform.proofs.request.read_fitting_request.Goals as goal

pub returns-in-Ok-clause-fits : goal.returns-in-Ok-clause-fits
returns-in-Ok-clause-fits c = line_fits c.read_values_belong.ensures c.args.schema.now c.args.line.now (Ok c.in-Ok.request) c.in-Ok.ensures.answer

pub returns-in-Ok-clause-only : goal.returns-in-Ok-clause-only
returns-in-Ok-clause-only c =
    only_line c.one_written_uid.ensures c.args.schema.now c.well_formedness.ensures.in_order.1 c.well_formedness.ensures.lists c.args.line.now (Ok c.in-Ok.request) c.in-Ok.ensures.answer

pub returns-in-Err-clause-only : goal.returns-in-Err-clause-only
returns-in-Err-clause-only c =
    only_line c.one_written_uid.ensures c.args.schema.now c.well_formedness.ensures.in_order.1 c.well_formedness.ensures.lists c.args.line.now (Err c.in-Err.fault) c.in-Err.ensures.answer
