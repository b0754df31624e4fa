use Rattle.std.proofs.Common.{◌∙◌, refl, sym}
use Rattle.cedar_value.specs.Datum.{fields_of}
use Rattle.cedar_schema.proofs.EnumeratedLemmas.{any_fields, none_there}
use Rattle.cedar_schema.proofs.schema.Schema.lists_record.Goals as goal

pub returns-then-is_empty : goal.returns-then-is_empty
returns-then-is_empty c =
    c.if-is_empty.true ∙ sym (any_fields c.args.self.now (rw (← c.self.view_is) (none_there c.self.inside.enumerated.entries (c.if-is_empty.ensures.0 refl))) (fields_of c.args.pairs.now))
