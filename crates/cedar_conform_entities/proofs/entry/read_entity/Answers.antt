use Rattle.std.proofs.Common.{sym}
use Rattle.std.proofs.lemmas.Result.{err_from_is_err_and}
use Rattle.serde_json.specs.View.{view}
use Rattle.cedar_conform_entities.proofs.EntryLemmas.{type_refused, parents_refused, good_parents, attributes_refused, shape_ordered}
use Rattle.cedar_conform_entities.proofs.entry.read_entity.Goals as goal

pub returns-in_default : goal.returns-in_default
returns-in_default c = λ other. type_refused c.args.schema.now (view c.args.json.now) c.args.written.uid c.args.written.parents.items c.requires.written c.requires.entity c.in_default.ensures

pub returns-in_err-judge_parents : goal.returns-in_err-judge_parents
returns-in_err-judge_parents c =
    let p = err_from_is_err_and c.from_residual.result c.from_residual.ensures.1 in
    rw (p.1, p.2) (parents_refused c.args.schema.now (view c.args.json.now) c.args.written.uid c.args.written.parents.items c.requires.written c.requires.entity _ c.deref.result.now c.deref.ensures.value c.in_err-judge_parents.ensures)

pub read_attributes-requires : goal.read_attributes-requires
read_attributes-requires c = shape_ordered c.args.schema.now c.args.written.uid.ty c.in-Some.shape.now c.well_formedness.ensures.shapes c.in-Some.ensures

pub returns-in_err-attrs : goal.returns-in_err-attrs
returns-in_err-attrs c =
    let p = err_from_is_err_and c.from_residual-in_err-attrs.result c.from_residual-in_err-attrs.ensures.1 in
    rw (p.1, p.2) (attributes_refused c.args.schema.now (view c.args.json.now) c.args.written.uid c.args.written.parents.items c.requires.written c.requires.entity _ c.in-Some.shape.now c.in-Some.ensures c.in_err-attrs.ensures)

pub returns : goal.returns
returns c = record {
  written = record { written = c.requires.written; no_action = c.requires.entity };
  shape = c.in-Some.shape.now;
  declared = sym c.in-Some.ensures;
  fine = c.in_ok-attrs.ensures.0;
  attributes = c.in_ok-attrs.ensures.1;
  parents = good_parents c.args.schema.now (view c.args.json.now) c.args.written.uid c.args.written.parents.items c.requires.written c.requires.entity c.deref.result.now c.deref.ensures.value c.in_ok-judge_parents.ensures;
}
