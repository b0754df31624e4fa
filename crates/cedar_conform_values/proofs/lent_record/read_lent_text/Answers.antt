use Rattle.std.proofs.Common.{sym, ap, ◌∙◌}
use Rattle.cedar_schema_types.specs.TypeKind.{type_of}
use Rattle.cedar_conform_values.proofs.KindLemmas.{reads_string, reads_extension, text_refused}
use Rattle.cedar_conform_values.proofs.lent_record.read_lent_text.Goals as goal

pub returns-in-String : goal.returns-in-String
returns-in-String c = reads_string _ _ _ (ap type_of (sym c.in-String.is) ∙ c.kind.ensures) c.text_value.ensures

pub returns-in-Extension : goal.returns-in-Extension
returns-in-Extension c = reads_extension _ _ _ _ (ap type_of (sym c.in-Extension.is) ∙ c.kind.ensures) c.extension_value.ensures

pub returns-in_default : goal.returns-in_default
returns-in_default c = text_refused c.args.ty.now c.kind.result.now c.args.text.now c.kind.ensures c.in_default.not-String c.in_default.not-Extension
