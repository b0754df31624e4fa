use Rattle.std.proofs.Common.{Ok, Err}
use Rattle.cedar_conform.specs.Parts.{parts_of}
use Rattle.cedar_conform.proofs.PartsLemmas.{only_parts}
use Rattle.cedar_conform.proofs.parts.read_fitting_parts.Goals as goal

pub returns-in-Ok-clause-only : goal.returns-in-Ok-clause-only
returns-in-Ok-clause-only c =
    only_parts c.args.schema.now c.well_formedness.ensures.in_order.1 c.well_formedness.ensures.lists (parts_of c.args.parts.now) (Ok c.in-Ok.request) c.in-Ok.ensures.answer

pub returns-in-Err-clause-only : goal.returns-in-Err-clause-only
returns-in-Err-clause-only c =
    only_parts c.args.schema.now c.well_formedness.ensures.in_order.1 c.well_formedness.ensures.lists (parts_of c.args.parts.now) (Err c.in-Err.fault) c.in-Err.ensures.answer
