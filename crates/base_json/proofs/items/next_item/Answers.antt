use Rattle.std.proofs.Common.{◌≡◌, None, Err, ap, arith}
use Rattle.json.specs.Json.{after_end_array}
use Rattle.serde_json.specs.View.{view}
use Rattle.base_json.proofs.Coming.{ended, behind, item_to_come, none_to_come}
use Rattle.base_json.proofs.items.next_item.Goals as goal

pub returns-then-is_some-clause-items : goal.returns-then-is_some-clause-items
returns-then-is_some-clause-items c = λ refused. behind c.args.reader.now c.take_end_array.new.self c.next.new.self c.next.result (grind arith) c.next.ensures.value (grind arith)

pub returns-then-take_end_array-clause-items : goal.returns-then-take_end_array-clause-items
returns-then-take_end_array-clause-items c = ended c.args.reader.now c.take_end_array.new.self c.next.new.self c.next.result (grind arith) c.next.ensures.value (grind arith)

pub returns-in-Ok-clause-items : goal.returns-in-Ok-clause-items
returns-in-Ok-clause-items c =
    let going : (after_end_array c.args.reader.now ≡ None) × (c.take_end_array.new.self ≡ c.args.reader.now) = grind arith in
    item_to_come c.args.reader.now c.read_tree.new.reader (view c.in-Ok.item) going.0 (rw (← going.1) c.in-Ok.ensures.ok) (rw (← going.1) c.in-Ok.ensures.shorter)

pub returns-in-Err-clause-items : goal.returns-in-Err-clause-items
returns-in-Err-clause-items c =
    let going : (after_end_array c.args.reader.now ≡ None) × (c.take_end_array.new.self ≡ c.args.reader.now) = grind arith in
    λ refused. none_to_come c.args.reader.now going.0 (rw (← going.1) (c.in-Err.ensures.err (ap Err refused)))
