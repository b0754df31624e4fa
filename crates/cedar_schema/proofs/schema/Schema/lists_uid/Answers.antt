use Rattle.std.proofs.Common.{◌∙◌}
use Rattle.cedar_schema.proofs.EnumeratedLemmas.{listed_told}
use Rattle.cedar_schema.proofs.schema.Schema.lists_uid.Goals as goal

pub returns-in-Some : goal.returns-in-Some
returns-in-Some c =
    c.has.ensures
    ∙ listed_told c.args.self.now c.args.uid.now c.in-Some.enumeration.now (rw (← c.self.view_is) c.in-Some.ensures.value)
