use Rattle.std.proofs.Common.{sym, ◌∙◌}
use Rattle.base_json.specs.LentItems.{item_view}
use Rattle.cedar_conform_entities.proofs.EntryLemmas.{good_parents, shape_ordered}
use Rattle.cedar_conform_entities.proofs.plain.plain_entity.Goals as goal

pub plain_attributes-requires : goal.plain_attributes-requires
plain_attributes-requires c = shape_ordered c.args.schema.now c.in-Some.written.uid.ty c.in-Some-attributes.shape.now c.well_formedness.ensures.shapes c.in-Some-attributes.ensures

pub returns-then-is_listed : goal.returns-then-is_listed
returns-then-is_listed c =
    let written = rw c.in-Some.is at c.in_ok-written.ensures in
    let read = rw c.in-Some-2.is at c.in_ok-attrs.ensures in record {
      read = record {
        written = written;
        shape = c.in-Some-attributes.shape.now;
        declared = sym c.in-Some-attributes.ensures;
        fine = read.0;
        attributes = read.1;
        parents = good_parents c.args.schema.now (item_view c.args.item.now) c.in-Some.written.uid c.in-Some.written.parents.items written.written written.no_action c.deref.result.now c.deref.ensures.value c.in-Ok.ensures;
      };
      listed = sym c.is_listed.ensures ∙ c.if-is_listed.true;
    }
