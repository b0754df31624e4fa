use Rattle.std.proofs.Common.{◌≡◌, ◌-◌, ◌+◌, ◌<◌, ◌∷◌, ℕ, List, Option, Some, IfSome, length, drop, refl, sym, ap, ◌∙◌, subst, arith}
use Rattle.json.specs.Json.{after_end_array, items, parse_map, value}
use Rattle.json.specs.Lex.{tokens}
use Rattle.json.specs.Token.{begin_array}
use Rattle.serde_json.specs.Data as Data
use Rattle.serde_json.specs.Read.{of_items, of_json, converted}
use Rattle.base_json.proofs.PlainValues.{all_objects, list_inside, list_opens, list_over, no_object_read, object_turn, read_shorter}
use Rattle.base_json.proofs.Reading.{items_over}
use Rattle.base_json.specs.LentObjects.{object_view}
use Rattle.base_json.specs.Private.Plain.{ReadsNested, objects_before, tokens_after}
use Rattle.base_json.specs.declared.lent_object.LentObject.{LentObject}
use Rattle.base_json.proofs.plain_object.objects_at.Goals as goal

pub objects-init : goal.objects-init
objects-init c =
    let ts = tokens (drop c.skip_spaces-next.result c.args.text.now) in (
      length ts,
      omega arith,
      λ depth enough. no_object_read (converted of_items (items (value depth) (length ts) ts))
          ∙ ap (λ (os : List LentObject). parse_map (objects_before os) (converted of_items (items (value depth) (length ts) ts))) (sym c.new-objects.ensures.items),
    )

-- the object, and the items after it
read : (c : goal.In_ok-push) (depth : ℕ) → 0 < depth
    → converted of_json (value depth (tokens (drop c.objects.next c.args.text.now))) ≡ Some (object_view c.in-Some-2.object, tokens (drop c.in-Some-left_behind.after c.args.text.now))
read c depth enough =
    let same : c.as_bytes-bytes.result.now ≡ c.args.text.now = grind arith in
    let after : tokens_after c.args.text.now c.in-Some-2.end ≡ tokens (drop c.in-Some-left_behind.after c.args.text.now) = rw (← same) c.in-Some-left_behind.ensures.tokens in
    let found : ReadsNested 1 c.args.text.now c.objects.next (object_view c.in-Some-2.object) c.in-Some-2.end =
    subst (λ (o : Option (LentObject × ℕ)). IfSome o (λ f. ReadsNested 1 c.args.text.now c.objects.next (object_view f.0) f.1)) c.in-Some-2.is c.in_ok-object.ensures in
    found depth enough ∙ ap (λ ts. Some (object_view c.in-Some-2.object, ts)) after

pub objects-smaller : goal.objects-smaller
objects-smaller c =
    read_shorter 1 (tokens (drop c.objects.next c.args.text.now)) (tokens (drop c.in-Some-left_behind.after c.args.text.now)) (object_view c.in-Some-2.object) (read c 1 (omega arith))

pub objects-preserved : goal.objects-preserved
objects-preserved c =
    let l = c.objects in
    let text = c.args.text.now in
    let ts = tokens (drop l.next text) in
    let rest = tokens (drop c.in-Some-left_behind.after text) in
    let o : LentObject = c.in-Some-2.object in
    let n = l.invariant.0 in
    let shorter = read_shorter 1 ts rest (object_view o) (read c 1 (omega arith)) in (
      n - 1,
      omega (arith, l.invariant.1, shorter),
      λ depth enough. l.invariant.2 depth enough ∙ object_turn l.objects.items o depth n ts rest l.invariant.1 (read c depth (omega (arith, enough)))
          ∙ ap (λ (os : List LentObject). parse_map (objects_before os) (converted of_items (items (value depth) (n - 1) rest))) (sym c.in_ok-push.ensures.items),
    )

pub returns : goal.returns
returns c depth enough =
    let l = c.objects in
    let text = c.args.text.now in
    let bytes = c.as_bytes-bytes.result.now in
    let same : bytes ≡ text = grind arith in
    let bracket = c.in-Some.ensures in
    let begin = c.skip_spaces-next.result in
    let opens : tokens (drop c.args.at text) ≡ begin_array ∷ tokens (drop begin text) =
    rw (← same) (list_opens bytes c.args.at c.in-Some.bracket begin bracket.lexemes bracket.within bracket.here c.skip_spaces-next.ensures) in
    let end = c.objects-test.ensures in
    let over : after_end_array (tokens (drop l.next text)) ≡ Some (tokens_after text (l.next + 1)) = rw (← same) (list_over bytes l.next (end.within refl) (end.here refl)) in
    ap (λ ts. converted of_json (value depth ts)) opens ∙ list_inside depth (tokens (drop begin text)) (omega (arith, enough))
    ∙ ap (parse_map Data.array) (l.invariant.2 (depth - 1) (omega (arith, enough))
    ∙ ap (parse_map (objects_before l.objects.items)) (items_over (value (depth - 1)) l.invariant.0 (tokens (drop l.next text)) (tokens_after text (l.next + 1)) l.invariant.1 over))
    ∙ ap (λ ds. Some (Data.array ds, tokens_after text (l.next + 1))) (all_objects l.objects.items)
