use Rattle.std.proofs.Common.{◌≡◌, [], length, refl, sym, ◌∙◌}
use Rattle.std.proofs.lemmas.Result.{err_from_is_err_and}
use Rattle.serde_json.specs.Data.{no_members}
use Rattle.base_json.specs.LentObjects.{object_view, put_all}
use Rattle.cedar_schema_types.specs.Types.{names_of}
use Rattle.cedar_conform_values.specs.Values.{extra_faults}
use Rattle.cedar_conform_values.proofs.FieldLemmas.{record_is, record_key_refused, read_pairs_ascend}
use Rattle.cedar_conform_values.proofs.KeyCounts.{as_many}
use Rattle.cedar_conform_values.proofs.lent_record.read_short_record.Goals as goal
use Rattle.cedar_conform_values.proofs.lent_record.read_short_record.Goals.{then-len+in_ok-check_lent_keys-in-Ok, else-len}

pub returns-in_err-check_lent_keys-in-Ok : goal.returns-in_err-check_lent_keys-in-Ok
returns-in_err-check_lent_keys-in-Ok c =
    let p = err_from_is_err_and c.from_residual.result c.from_residual.ensures.1 in
    let o = c.args.found.now in
    rw (p.1, p.2) (record_key_refused (object_view o) c.args.attributes.now (put_all o.members.items no_members) _ refl c.in_err-check_lent_keys-in-Ok.ensures)

pub from_ascending-requires : goal.from_ascending-requires
from_ascending-requires c = read_pairs_ascend c.attributes.result.now (object_view c.args.found.now) c.in-Ok.pairs.items c.attributes.ensures.ascending c.in-Ok.ensures.1

pub returns-after-len : goal.returns-after-len
returns-after-len c =
    let o = c.args.found.now in
    let ms = put_all o.members.items no_members in
    let none : extra_faults (names_of c.args.attributes.now) ms ≡ [] = elim c.if-len.branch [
      | then-len+in_ok-check_lent_keys-in-Ok w ↦ w.in_ok-check_lent_keys-in-Ok.ensures
      | else-len w ↦
          let same : length c.in-Ok.pairs.items ≡ length o.members.items = sym c.in-Ok.pairs.ok.0 ∙ sym c.len.ensures ∙ w.if-len.false ∙ c.len-in-Ok.ensures ∙ o.members.ok.0 in
          rw (← c.attributes.ensures.attributes) (as_many c.attributes.result.now o.members.items c.in-Ok.pairs.items c.attributes.ensures.ascending c.in-Ok.ensures.1 same)
    ] in
    record_is (object_view o) c.args.attributes.now ms c.from_ascending.result refl none
    (rw c.attributes.ensures.attributes at c.in-Ok.ensures.0) (c.from_ascending.ensures ∙ (rw c.attributes.ensures.attributes at c.in-Ok.ensures.1))
