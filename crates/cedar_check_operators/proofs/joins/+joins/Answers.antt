use Rattle.std.proofs.Common.{arith, ap₂, sym, ◌∙◌}
use Rattle.std.specs.Prelude.{is_some}
use Rattle.cedar_schema_types.specs.Joining.{join, join_attributes}
use Rattle.cedar_schema_types.specs.Types.{record_of}
use Rattle.cedar_check_operators.specs.Private.View.{type_seen}
use Rattle.cedar_check_operators.proofs.Joinable.{height_here, mapped, lengths_apart, stop, go_on}
use Rattle.cedar_check_operators.proofs.joins.+joins.Goals as goal

pub records_join-returns-then-one-two : goal.records_join-returns-then-one-two
records_join-returns-then-one-two t c = sym (lengths_apart c.args.one.now c.args.two.now c.if-one-two.true)

pub records_join-attributes_join-requires : goal.records_join-attributes_join-requires
records_join-attributes_join-requires t c = (omega (arith, height_here c.args.one.now c.loop-i.i c.index-one-i.result (omega arith) c.index-one-i.is, c.decreases), tt)

pub records_join-returns-then-not-attributes_join : goal.records_join-returns-then-not-attributes_join
records_join-returns-then-not-attributes_join t c =
    let same = c.loop-i.invariant.same_length in
    sym (stop c.args.one.now c.args.two.now c.loop-i.i c.index-one-i.result c.index-two-i.result (omega arith) (omega arith) c.index-one-i.is c.index-two-i.is (sym c.if-not-attributes_join.ensures))
    ∙ c.loop-i.invariant.so_far

pub records_join-loop-i-preserved : goal.records_join-loop-i-preserved
records_join-loop-i-preserved t c =
    let same = c.loop-i.invariant.same_length in
    record {
      so_far =
          go_on c.args.one.now c.args.two.now c.loop-i.i c.index-one-i.result c.index-two-i.result (omega arith) (omega arith) c.index-one-i.is c.index-two-i.is (sym c.if-not-attributes_join.ensures)
          ∙ c.loop-i.invariant.so_far;
      same_length = same;
    }

pub types_join-returns-in-Record-two : goal.types_join-returns-in-Record-two
types_join-returns-in-Record-two t c =
    c.records_join.ensures
    ∙ ap₂ (λ a b. is_some (join_attributes a b)) c.attributes.ensures.attributes c.attributes-in-Record-two.ensures.attributes
    ∙ sym (mapped record_of (join_attributes c.in-Record.left.now c.in-Record-two.right.now))
    ∙ sym (ap₂ (λ x y. is_some (join (type_seen x) (type_seen y))) c.in-Record.is c.in-Record-two.is)
