use Rattle.std.proofs.Common.{◌≡◌, ◌+◌, List, Option, option_map, sym, subst, drop, drop_of_length-le, arith}
use Rattle.cedar_schema_types.specs.Joining.{join_attributes}
use Rattle.cedar_schema_types.specs.TypeKind.{attributes_of}
use Rattle.cedar_schema_types.specs.Private.JoinsAttribute.{JoinsAttribute}
use Rattle.cedar_schema_types.specs.declared.attribute.Attribute.{Attribute}
use Rattle.cedar_schema_types.proofs.AttributeJoins.{before, lengths_differ, weight_here, start, stop, go_on, ended, here_and_on}
use Rattle.cedar_schema_types.proofs.JoinedNames.{joined_ascend}
use Rattle.cedar_schema_types.proofs.joining.+join.Goals as goal

pub join_attributes-returns-then-left-right : goal.join_attributes-returns-then-left-right
join_attributes-returns-then-left-right t c =
    sym (lengths_differ c.args.left.now c.args.right.now c.if-left-right.true)

pub join_attributes-loop-i-init : goal.join_attributes-loop-i-init
join_attributes-loop-i-init t c =
    record { so_far = start c.new-joined.result.items c.args.left.now c.args.right.now c.new-joined.ensures.items; same_length = omega arith }

pub join_attributes-returns-in-None : goal.join_attributes-returns-in-None
join_attributes-returns-in-None t c =
    let e = c.loop-i.invariant.same_length in
    let a = c.args.left.now in
    let b = c.args.right.now in
    let i = c.loop-i.i in
    let x = c.index-left-i.result in
    let y = c.index-right-i.result in
    stop c.loop-i.joined.items a b (drop (i + 1) a) (drop (i + 1) b) x y
    (subst (λ (r : Option Attribute). JoinsAttribute r x y) c.in-None.is c.in_ok-join_attribute.ensures)
    (drop i a) (drop i b)
    (here_and_on a i x (omega arith) c.index-left-i.is)
    (here_and_on b i y (omega arith) c.index-right-i.is)
    c.loop-i.invariant.so_far

pub join_attributes-loop-i-preserved : goal.join_attributes-loop-i-preserved
join_attributes-loop-i-preserved t c =
    let e = c.loop-i.invariant.same_length in
    let a = c.args.left.now in
    let b = c.args.right.now in
    let i = c.loop-i.i in
    let x = c.index-left-i.result in
    let y = c.index-right-i.result in
    let z = c.in-Some.attribute in
    let more = go_on c.loop-i.joined.items a b (drop (i + 1) a) (drop (i + 1) b) x y z
    (subst (λ (r : Option Attribute). JoinsAttribute r x y) c.in-Some.is c.in_ok-join_attribute.ensures)
    (drop i a) (drop i b)
    (here_and_on a i x (omega arith) c.index-left-i.is)
    (here_and_on b i y (omega arith) c.index-right-i.is)
    c.loop-i.invariant.so_far in
    record {
      so_far = subst (λ (l : List Attribute). option_map (before (attributes_of l)) (join_attributes (attributes_of (drop (i + 1) a)) (attributes_of (drop (i + 1) b))) ≡ join_attributes (attributes_of a) (attributes_of b)) (sym c.in_ok-push-in-Some.ensures.items) more;
      same_length = e;
    }

pub join_attributes-returns : goal.join_attributes-returns
join_attributes-returns t c =
    ended c.loop-i.joined.items c.args.left.now c.args.right.now _ _
    (drop_of_length-le c.args.left.now {i = c.loop-i.i} (omega arith))
    (drop_of_length-le c.args.right.now {i = c.loop-i.i} (let e = c.loop-i.invariant.same_length in omega arith))
    c.loop-i.invariant.so_far

pub join_attributes-join_attribute-requires : goal.join_attributes-join_attribute-requires
join_attributes-join_attribute-requires t c =
    let q = weight_here c.args.left.now c.loop-i.i c.index-left-i.result (omega arith) c.index-left-i.is in
    omega (arith, q, c.decreases)

pub join-from_ascending-requires : goal.join-from_ascending-requires
join-from_ascending-requires t c = joined_ascend _ _ _ c.attributes.ensures.ascending (rw c.in-Some-2.is at c.in_ok-join_attributes-in-Record-Record.ensures)
