use Rattle.std.proofs.Common.{◌≡◌, arith, sym, ap, ◌∙◌}
use Rattle.std.proofs.lemmas.Result.{err_from_is_err_and}
use Rattle.serde_json.specs.View.{items_view, members_view, view}
use Rattle.cedar_schema_types.specs.Types as kind
use Rattle.cedar_schema_types.specs.TypeKind.{attributes_of, type_of}
use Rattle.cedar_conform_values.specs.Values.{value_read, fields_read, all_read}
use Rattle.cedar_conform_values.proofs.FieldLemmas.{fields_more, fields_refused, fields_end, record_key_refused, record_field_refused, record_refused, record_is, read_pairs_ascend}
use Rattle.cedar_conform_values.proofs.TypeHeights.{height_first}
use Rattle.cedar_conform_values.proofs.KindLemmas.{reads_boolean, reads_long, reads_string, reads_entity, reads_set, reads_extension, items_more, items_refused, items_end}
use Rattle.cedar_conform_values.proofs.value.+read.Goals as goal

pub read_fields-returns-in_err-add_field : goal.read_fields-returns-in_err-add_field
read_fields-returns-in_err-add_field t c =
    let p = err_from_is_err_and c.from_residual-in_err-add_field.result c.from_residual-in_err-add_field.ensures.1 in
    rw (p.1, p.2) (fields_refused (view c.args.json.now) c.walk.rest.now c.in-Some.attribute.now c.in-Some.others.now _ (fields_read (attributes_of c.args.attributes.now) (view c.args.json.now)) c.in-Some.ensures.cases.0 c.in_err-add_field.ensures c.walk.invariant.faults)

pub read_fields-walk-preserved : goal.read_fields-walk-preserved
read_fields-walk-preserved t c =
    let e = c.in-Some.ensures.cases.0 in
    let w = height_first c.walk.rest.now c.in-Some.attribute.now c.in-Some.others.now e in
    let less = c.walk.invariant.less in
    let more = fields_more (view c.args.json.now) c.walk.pairs.items c.add_field.new.pairs.items c.walk.rest.now c.in-Some.attribute.now c.in-Some.others.now (fields_read (attributes_of c.args.attributes.now) (view c.args.json.now)) e c.in_ok-add_field.ensures.0 c.in_ok-add_field.ensures.1 c.walk.invariant.pairs c.walk.invariant.faults in
    record {
      pairs = more.0;
      faults = more.1;
      less = omega (arith, w.1, less);
    }

pub read_fields-returns : goal.read_fields-returns
read_fields-returns t c =
    fields_end (view c.args.json.now) c.walk.pairs.items c.walk.rest.now (fields_read (attributes_of c.args.attributes.now) (view c.args.json.now)) c.in_default.ensures.cases c.walk.invariant.pairs c.walk.invariant.faults

pub read_members-returns-in_err-value : goal.read_members-returns-in_err-value
read_members-returns-in_err-value t c =
    let p = err_from_is_err_and c.from_residual-in_err-value.result c.from_residual-in_err-value.ensures.1 in
    rw (p.1, p.2) (items_refused (value_read c.args.member.now) c.walk.rest.now c.in-Some.item.now c.in-Some.others.now _ (all_read (value_read c.args.member.now) (items_view c.args.items.now)) c.in-Some.ensures.cases.0 c.in_err-value.ensures.reads c.walk.invariant.faults)

pub read_members-walk-preserved : goal.read_members-walk-preserved
read_members-walk-preserved t c =
    let more = items_more (value_read c.args.member.now) c.walk.members.items c.push.new.self.items c.walk.rest.now c.in-Some.item.now c.in-Some.others.now c.in_ok-value.value (all_read (value_read c.args.member.now) (items_view c.args.items.now)) c.in-Some.ensures.cases.0 c.in_ok-value.ensures.reads.0 c.in_ok-value.ensures.reads.1 c.in_ok-push.ensures.items c.walk.invariant.values c.walk.invariant.faults in
    record { values = more.0; faults = more.1 }

pub read_members-returns : goal.read_members-returns
read_members-returns t c =
    items_end (value_read c.args.member.now) c.walk.members.items c.walk.rest.now (all_read (value_read c.args.member.now) (items_view c.args.items.now)) c.in_default.ensures.cases c.walk.invariant.values c.walk.invariant.faults

pub record_at-returns-in_err-check_keys-in-Some : goal.record_at-returns-in_err-check_keys-in-Some
record_at-returns-in_err-check_keys-in-Some t c =
    let p = err_from_is_err_and c.from_residual.result c.from_residual.ensures.1 in
    rw (p.1, p.2) (record_key_refused (view c.args.json.now) c.args.attributes.now (members_view c.in-Some.members.now.entries) _ c.in-Some.ensures c.in_err-check_keys-in-Some.ensures)

pub record_at-returns-in_err-pairs-in-Some : goal.record_at-returns-in_err-pairs-in-Some
record_at-returns-in_err-pairs-in-Some t c =
    let p = err_from_is_err_and c.from_residual-in_err-pairs-in-Some.result c.from_residual-in_err-pairs-in-Some.ensures.1 in
    rw (p.1, p.2) (record_field_refused (view c.args.json.now) c.args.attributes.now (members_view c.in-Some.members.now.entries) _ c.in-Some.ensures (rw c.attributes.ensures.attributes at c.in_err-pairs-in-Some.ensures))

pub record_at-returns-in-None : goal.record_at-returns-in-None
record_at-returns-in-None t c = record_refused (view c.args.json.now) c.args.attributes.now c.in-None.ensures

pub read_value-returns-in-Boolean : goal.read_value-returns-in-Boolean
read_value-returns-in-Boolean t c = record { reads = reads_boolean _ _ _ _ (ap type_of (sym c.in-Boolean.is) ∙ c.kind.ensures) c.read_truth.ensures }

pub read_value-returns-in-Long : goal.read_value-returns-in-Long
read_value-returns-in-Long t c = record { reads = reads_long _ _ _ (ap type_of (sym c.in-Long.is) ∙ c.kind.ensures) c.read_long.ensures }

pub read_value-returns-in-String : goal.read_value-returns-in-String
read_value-returns-in-String t c = record { reads = reads_string _ _ _ (ap type_of (sym c.in-String.is) ∙ c.kind.ensures) c.read_text.ensures }

pub read_value-returns-in-Entity : goal.read_value-returns-in-Entity
read_value-returns-in-Entity t c = record { reads = reads_entity _ _ _ _ (ap type_of (sym c.in-Entity.is) ∙ c.kind.ensures) c.read_entity.ensures }

pub read_value-returns-in-Set : goal.read_value-returns-in-Set
read_value-returns-in-Set t c =
    let e : kind.set c.in-Set.member.value ≡ c.args.ty.now = ap type_of (sym c.in-Set.is) ∙ c.kind.ensures in
    let h = c.deref.ensures in
    let s : kind.set c.deref.result.now ≡ c.args.ty.now = cc in
    record { reads = reads_set _ _ _ c.deref.result.now s c.read_set.ensures }

pub read_value-returns-in-Extension : goal.read_value-returns-in-Extension
read_value-returns-in-Extension t c = record { reads = reads_extension _ _ _ _ (ap type_of (sym c.in-Extension.is) ∙ c.kind.ensures) c.read_extension.ensures }

pub record_at-from_ascending-requires : goal.record_at-from_ascending-requires
record_at-from_ascending-requires t c =
    read_pairs_ascend c.attributes.result.now (view c.args.json.now) c.in_ok-pairs-in-Some.pairs.items c.attributes.ensures.ascending c.in_ok-pairs-in-Some.ensures.1

pub record_at-returns-in_ok-pairs-in-Some : goal.record_at-returns-in_ok-pairs-in-Some
record_at-returns-in_ok-pairs-in-Some t c =
    record_is (view c.args.json.now) c.args.attributes.now (members_view c.in-Some.members.now.entries) c.from_ascending.result
    c.in-Some.ensures c.in_ok-check_keys-in-Some.ensures (rw c.attributes.ensures.attributes at c.in_ok-pairs-in-Some.ensures.0) (c.from_ascending.ensures ∙ (rw c.attributes.ensures.attributes at c.in_ok-pairs-in-Some.ensures.1))
