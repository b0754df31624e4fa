use Rattle.std.proofs.Common.{sym, ap, ◌∙◌}
use Rattle.std.specs.List.{list_all}
use Rattle.serde_json.specs.Data.{no_members}
use Rattle.base_json.specs.LentObjects.{put_all}
use Rattle.base_json.specs.declared.lent_object.LentMember.{LentMember}
use Rattle.cedar_schema_types.specs.Types.{names_of}
use Rattle.cedar_conform_values.specs.Values.{is_declared}
use Rattle.cedar_conform_values.proofs.KeyLemmas.{none_extra, one_extra, only_members}
use Rattle.cedar_conform_values.proofs.lent_record.check_lent_keys.Goals as goal

pub returns-then-are_declared : goal.returns-then-are_declared
returns-then-are_declared c =
    let names = names_of c.args.attributes.now in
    let ms = c.args.found.now.members.items in
    let test = λ (m : LentMember). is_declared names m.key.now in
    none_extra names (put_all ms no_members) (only_members (is_declared names) ms ∙ ap (list_all test) (sym c.deref.ensures.value) ∙ sym c.are_declared.ensures ∙ c.if-are_declared.true)

pub returns-else-are_declared : goal.returns-else-are_declared
returns-else-are_declared c =
    let names = names_of c.args.attributes.now in
    let ms = c.args.found.now.members.items in
    let test = λ (m : LentMember). is_declared names m.key.now in
    one_extra names (put_all ms no_members) (only_members (is_declared names) ms ∙ ap (list_all test) (sym c.deref.ensures.value) ∙ sym c.are_declared.ensures ∙ c.if-are_declared.false)
