use Rattle.cedar_conform.proofs.WithEntitiesLemmas.{line_denotes, line_fits, line_conforms, line_only, line_refused}
use Rattle.cedar_conform.proofs.request_with_entities.read_request_with_entities.Goals as goal

pub returns-clause-denotes : goal.returns-clause-denotes
returns-clause-denotes c = line_denotes c.args.schema.now c.args.store.now c.args.line.now c.read_line.result c.read_line.ensures

pub returns-clause-fits : goal.returns-clause-fits
returns-clause-fits c = line_fits c.args.schema.now c.args.store.now c.args.line.now c.requests_with_entities_fit.ensures c.read_line.result c.read_line.ensures

pub returns-clause-conforms : goal.returns-clause-conforms
returns-clause-conforms c =
    line_conforms c.args.schema.now c.args.store.now c.args.line.now c.worlds_for_requests_conform.ensures c.well_formedness.ensures.entity_parents c.well_formedness.ensures.apart c.well_formedness.ensures.hierarchy c.read_line.result c.read_line.ensures

pub returns-clause-refused : goal.returns-clause-refused
returns-clause-refused c = line_refused c.args.schema.now c.args.store.now c.args.line.now c.read_line.result c.read_line.ensures

pub returns-clause-only : goal.returns-clause-only
returns-clause-only c =
    line_only c.args.schema.now c.args.store.now c.args.line.now c.requests_with_entities_are_exact.ensures.one c.requests_with_entities_are_exact.ensures.no_fault c.well_formedness.ensures.in_order c.well_formedness.ensures.lists c.read_line.result c.read_line.ensures
