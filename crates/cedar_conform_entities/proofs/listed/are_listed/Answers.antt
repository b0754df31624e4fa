use Rattle.std.proofs.Common.{sym, ap, ◌∙◌}
use Rattle.std.specs.List.{list_all}
use Rattle.std.proofs.lemmas.List.{drop_all}
use Rattle.cedar_conform_values.proofs.KeyLemmas.{walk_on, walk_ends}
use Rattle.cedar_schema_spec.specs.Enumerated.{is_listed}
use Rattle.cedar_conform_entities.proofs.listed.are_listed.Goals as goal

pub loop-uid-preserved : goal.loop-uid-preserved
loop-uid-preserved c =
    c.loop-uid.invariant
    ∙ walk_on (is_listed c.args.schema.now) c.args.uids.now c.loop-uid.uid-index c.uid-item.result c.loop-uid-test.true c.uid-item.is (sym c.lists_uid.ensures ∙ c.if-not-lists_uid.false)

pub returns-then-not-lists_uid : goal.returns-then-not-lists_uid
returns-then-not-lists_uid c =
    sym (c.loop-uid.invariant ∙ walk_ends (is_listed c.args.schema.now) c.args.uids.now c.loop-uid.uid-index c.uid-item.result c.loop-uid-test.true c.uid-item.is (sym c.lists_uid.ensures ∙ c.if-not-lists_uid.true))

pub returns : goal.returns
returns c = sym (c.loop-uid.invariant ∙ ap (list_all (is_listed c.args.schema.now)) (drop_all c.loop-uid.uid-index c.args.uids.now c.loop-uid-test.false))
