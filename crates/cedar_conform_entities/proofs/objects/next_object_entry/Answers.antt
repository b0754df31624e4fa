use Rattle.std.proofs.Common.{◌≡◌, List, ℕ, length, Some, option_map, sym, ap, ◌∙◌, arith}
use Rattle.serde_json.specs.Data.{item}
use Rattle.serde_json.specs.View.{view}
use Rattle.base_json.specs.LentItems.{item_of}
use Rattle.base_json.specs.Lists.{left_in}
use Rattle.cedar_conform_entities.proofs.ComingLemmas.{first_refused}
use Rattle.cedar_conform_entities.proofs.PlainLemmas.{passes_next, passes_some}
use Rattle.cedar_conform_entities.proofs.objects.next_object_entry.Goals as goal

pub returns-in-Some-clause-entry : goal.returns-in-Some-clause-entry
returns-in-Some-clause-entry c =
    let (d, next, denotes) = rw c.in-Some.is at c.in_ok-entity.ensures in
    (d, denotes, next.items ∙ ap (λ (bytes : List ℕ). option_map (item d) (left_in bytes)) (sym c.in_ok-pass.ensures))

pub returns-in-Some-clause-shorter : goal.returns-in-Some-clause-shorter
returns-in-Some-clause-shorter c =
    let (d, next, denotes) = rw c.in-Some.is at c.in_ok-entity.ensures in
    omega (arith, passes_next c.in-Some.after c.args.list.now d next, ap length c.in_ok-pass.ensures)

pub returns-in-Ok-clause-entry : goal.returns-in-Ok-clause-entry
returns-in-Ok-clause-entry c =
    let tree = view c.in-Some-3.tree in
    let read : item_of c.in-Some-object.object.text.now ≡ Some tree = rw c.in-Some-3.is at c.in_ok-tree.ensures in
    (tree, c.in-Ok.ensures, c.in-Some-object.ensures.items tree read ∙ ap (λ (bytes : List ℕ). option_map (item tree) (left_in bytes)) (sym c.in_ok-pass-3.ensures))

pub returns-in-Ok-clause-shorter : goal.returns-in-Ok-clause-shorter
returns-in-Ok-clause-shorter c =
    let tree = view c.in-Some-3.tree in
    let read : item_of c.in-Some-object.object.text.now ≡ Some tree = rw c.in-Some-3.is at c.in_ok-tree.ensures in
    let short = passes_some c.in-Some-object.object.text.now c.in-Some-object.object.passed c.args.list.now tree c.in-Some-object.ensures read in
    omega (arith, short, ap length c.in_ok-pass-3.ensures)

pub returns-in-Err-clause-entry : goal.returns-in-Err-clause-entry
returns-in-Err-clause-entry c =
    let tree = view c.in-Some-3.tree in
    let read : item_of c.in-Some-object.object.text.now ≡ Some tree = rw c.in-Some-3.is at c.in_ok-tree.ensures in
    let first = c.in-Some-object.ensures.items tree read ∙ ap (λ (bytes : List ℕ). option_map (item tree) (left_in bytes)) (sym c.in_ok-pass-3.ensures) in
    first_refused c.args.schema.now tree (left_in c.args.list.now) (left_in c.pass-2.new.self) c.in-Err.fault c.after_object_fault.result first c.in-Err.ensures c.after_object_fault.ensures
