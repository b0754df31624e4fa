use Rattle.cedar_files.specs.declared.files.Role.TheVariants.{Entities}
use Rattle.cedar_files.proofs.EntitiesFiles.{of_bytes}
use Rattle.cedar_files.proofs.reading.read_ready.Goals as goal

pub returns-clause-refused : goal.returns-clause-refused
returns-clause-refused g c =
    let s = c.args.validated.schema in
    let bytes = c.in_ok-bytes.bytes.items in
    let fault = c.in-Err.field-0.fault in
    of_bytes s (g.F.Files.holds c.args.files.now Entities) bytes fault c.refusal_of.result c.in_ok-bytes.ensures.held c.in-Err.ensures.refused c.refusal_of.ensures.refused
