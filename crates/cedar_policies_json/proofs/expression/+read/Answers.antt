use Rattle.std.proofs.Common.{◌-◌, sym, ◌∙◌, arith}
use Rattle.serde_json.specs.View.{view}
use Rattle.cedar_policies_json.specs.Expressions.{entry_read, written_read}
use Rattle.cedar_policies_json.proofs.Depths.{none_at_0, expression_at, value_at}
use Rattle.cedar_policies_json.proofs.Lists.{none_read, items_more, items_stop, items_end, entries_more, entries_stop, entries_end}
use Rattle.cedar_policies_json.proofs.expression.+read.Goals as goal

pub read-returns-then-depth-eq0 : goal.read-returns-then-depth-eq0
read-returns-then-depth-eq0 t c = none_at_0 c.args.mode c.args.depth (view c.args.json.now) c.if-depth-eq0.true

pub read-returns-in-Expression : goal.read-returns-in-Expression
read-returns-in-Expression t c = rw (expression_at c.args.mode c.args.depth (c.args.depth - 1) (view c.args.json.now) c.in-Expression.is (omega (arith, c.if-depth-eq0.false))) c.read_expression.ensures

pub read-returns-in-Value : goal.read-returns-in-Value
read-returns-in-Value t c = rw (value_at c.args.mode c.args.depth (c.args.depth - 1) (view c.args.json.now) c.in-Value.is (omega (arith, c.if-depth-eq0.false))) c.read_value.ensures

pub read_items-walk-init : goal.read_items-walk-init
read_items-walk-init t c = none_read _ _ c.new-found.ensures.items

pub read_items-walk-preserved : goal.read_items-walk-preserved
read_items-walk-preserved t c =
    items_more (written_read c.args.mode c.args.depth) _ _ c.walk.rest.now c.in-Some.item.now _ c.in-Some-2.written _
    c.in-Some.ensures.cases.0 (sym c.in-Some-2.is ∙ c.in_ok-written.ensures) c.in_ok-push.ensures.items c.walk.invariant

pub read_items-returns-in_default-2 : goal.read_items-returns-in_default-2
read_items-returns-in_default-2 t c =
    items_stop (written_read c.args.mode c.args.depth) _ c.walk.rest.now c.in-Some.item.now _ _ c.in-Some.ensures.cases.0 (sym c.in_default-2.is ∙ c.in_ok-written.ensures) c.walk.invariant

pub read_items-returns : goal.read_items-returns
read_items-returns t c = items_end (written_read c.args.mode c.args.depth) _ c.walk.rest.now _ c.in_default.ensures.cases c.walk.invariant

pub read_entries-loop-key-preserved : goal.read_entries-loop-key-preserved
read_entries-loop-key-preserved t c =
    entries_more (entry_read (written_read c.args.mode c.args.depth)) _ _ _ (c.in-Some.key.now, c.in-Some.json.now) _ c.in-Some-2.field _
    c.in-Some.ensures.steps (sym c.in-Some-2.is ∙ c.in_ok-field.ensures) c.in_ok-push.ensures.items c.loop-key.invariant

pub read_entries-returns-in_default : goal.read_entries-returns-in_default
read_entries-returns-in_default t c =
    entries_stop (entry_read (written_read c.args.mode c.args.depth)) _ _ (c.in-Some.key.now, c.in-Some.json.now) _ _ c.in-Some.ensures.steps (sym c.in_default.is ∙ c.in_ok-field.ensures) c.loop-key.invariant

pub read_entries-returns : goal.read_entries-returns
read_entries-returns t c = entries_end (entry_read (written_read c.args.mode c.args.depth)) _ _ _ c.in-None.ensures.steps.0 c.loop-key.invariant
