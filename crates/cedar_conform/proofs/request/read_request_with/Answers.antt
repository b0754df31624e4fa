use Rattle.cedar_conform.proofs.RequestLemmas.{line_denotes, line_fits, line_refused, only_line}
use Rattle.cedar_conform.proofs.request.read_request_with.Goals as goal

pub returns-clause-denotes : goal.returns-clause-denotes
returns-clause-denotes c = line_denotes c.args.schema.now c.args.line.now c.read_line.result c.read_line.ensures.answer

pub returns-clause-fits : goal.returns-clause-fits
returns-clause-fits c = line_fits c.read_values_belong.ensures c.args.schema.now c.args.line.now c.read_line.result c.read_line.ensures.answer

pub returns-clause-refused : goal.returns-clause-refused
returns-clause-refused c = line_refused c.args.schema.now c.args.line.now c.read_line.result c.read_line.ensures.answer

pub returns-clause-only : goal.returns-clause-only
returns-clause-only c =
    only_line c.one_written_uid.ensures c.args.schema.now c.well_formedness.ensures.in_order.1 c.well_formedness.ensures.lists c.args.line.now c.read_line.result c.read_line.ensures.answer
