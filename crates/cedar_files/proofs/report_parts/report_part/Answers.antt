use Rattle.cedar_files.proofs.NextParts.{part-over}
use Rattle.cedar_files.proofs.report_parts.report_part.Goals as goal

pub returns-clause-part : goal.returns-clause-part
returns-clause-part g c =
    let over = c.in_ok-reporting.ensures in
    (c.in_ok-schema.schema, c.in_ok-schema.policies, c.in_ok-schema.ensures.held, part-over c.in_ok-part.part c.args.place _ _ _ _ _ _ over.0 over.1 over.2 c.in_ok-part.ensures)
