use Rattle.std.proofs.Common.{◌≡◌, ◌+◌, ◌-◌, ◌≤◌, suc, true, Contains, Option, length, drop, drop_of_length-le, map, take, arith, ap, refl, subst, sym, ◌∙◌}
use Rattle.std.proofs.Math.ListN.{length-map}
use Rattle.std.proofs.lemmas.List.{take_all}
use Rattle.std.proofs.lemmas.Result.{IfOk-weaker}
use Rattle.std.specs.Prelude.{IfOk, option_and_then, option_map}
use Rattle.cedar_schema_types.specs.Joining.{only_if}
use Rattle.cedar_schema_types.specs.Ordered.{with_attribute}
use Rattle.cedar_schema_types.specs.Types.{Attributes, no_attributes, record_of}
use Rattle.cedar_schema_types.specs.declared.attribute.Attribute.{Attribute}
use Rattle.cedar_schema_types.proofs.Names.{name_of}
use Rattle.cedar_ast_expressions.specs.Private.Depth.{depth, list_depth, pairs_depth}
use Rattle.cedar_ast_expressions.specs.Expression.{and, set_with, record_with, expressions_of, entries_of}
use Rattle.cedar_ast_expressions.specs.Keys.{AreDistinct, keys_of, keys_in}
use Rattle.cedar_ast_expressions.proofs.Lists.{member_depth, pair_depth}
use Rattle.cedar_check_spec.specs.Rows.{Typed, as_type}
use Rattle.cedar_check_spec.specs.Private.Checking.{and_type, are_distinct, on_boolean, type_of_with, types_onto, types_entries}
use Rattle.cedar_check_operators.specs.View.{held_view, tree_of, typed_view, typing_view}
use Rattle.cedar_check.proofs.Joined.{member_refused, member_apart, member_joined, entry_refused, entry_added, nothing, distinct_names}
use Rattle.cedar_check.proofs.MadeRecord.{IsMade, key_new, none_made, one_more_made, one_more_name, record_made}
use Rattle.cedar_check.specs.Private.Spine.{Leads, row_from, rows_from}
use Rattle.cedar_check.proofs.Ways.{last_low, regrouped, row_up, row_whole, rows_whole, way_up}
use Rattle.cedar_check.proofs.checker.Checker.+check.Goals as goal

pub check_last-check_set-requires : goal.check_last-check_set-requires
check_last-check_set-requires t c =
    let items : c.deref-in-Set.result.now ≡ c.in-Set.members.items = c.deref-in-Set.ensures.value in
    let own : c.args.expression.now ≡ set_with (expressions_of c.in-Set.members.items) = cc in
    let high : depth c.args.expression.now ≡ suc (list_depth c.deref-in-Set.result.now) = ap depth own ∙ ap (λ es. suc (list_depth es)) (sym items) in
    (omega (arith, high, c.decreases), tt)

pub check_last-check_record-requires : goal.check_last-check_record-requires
check_last-check_record-requires t c =
    let pairs : c.pairs.result.now ≡ c.in-Record.entries = c.pairs.ensures.pairs in
    let own : c.args.expression.now ≡ record_with (entries_of c.in-Record.entries) = cc in
    let high : depth c.args.expression.now ≡ suc (pairs_depth c.pairs.result.now) = ap depth own ∙ ap (λ ps. suc (pairs_depth ps)) (sym pairs) in
    (omega (arith, high, c.decreases), subst (λ ps. AreDistinct (keys_of ps)) (sym pairs) c.pairs.ensures.distinct)

pub check_members-returns-in-Refused : goal.check_members-returns-in-Refused
check_members-returns-in-Refused t c =
    sym (member_refused c.args.self.now.settings c.args.self.now.schema.now c.args.self.now.environment.now (held_view c.args.held.now) (tree_of c.loop-member.joined) c.args.others.now c.loop-member.member-index c.member-item.result c.loop-member-test.true c.member-item.is
    (sym c.in_ok-x.ensures ∙ ap typing_view c.in-Refused.is))
    ∙ c.loop-member.invariant

pub check_members-returns-in-None : goal.check_members-returns-in-None
check_members-returns-in-None t c =
    sym (member_apart c.args.self.now.settings c.args.self.now.schema.now c.args.self.now.environment.now (held_view c.args.held.now) (tree_of c.loop-member.joined) c.args.others.now c.loop-member.member-index c.member-item.result (typed_view c.in-Typed.x) c.loop-member-test.true c.member-item.is
    (sym c.in_ok-x.ensures ∙ ap typing_view c.in-Typed.is)
    (sym c.in_ok-ty.ensures ∙ ap (option_map tree_of) c.in-None.is))
    ∙ c.loop-member.invariant

pub check_members-loop-member-preserved : goal.check_members-loop-member-preserved
check_members-loop-member-preserved t c =
    member_joined c.args.self.now.settings c.args.self.now.schema.now c.args.self.now.environment.now (held_view c.args.held.now) (tree_of c.loop-member.joined) (tree_of c.in-Some.ty) c.args.others.now c.loop-member.member-index c.member-item.result (typed_view c.in-Typed.x) c.loop-member-test.true c.member-item.is
    (sym c.in_ok-x.ensures ∙ ap typing_view c.in-Typed.is)
    (sym c.in_ok-ty.ensures ∙ ap (option_map tree_of) c.in-Some.is)
    ∙ c.loop-member.invariant

pub check_members-returns : goal.check_members-returns
check_members-returns t c =
    ap (option_map (λ (x : Typed). x.ty)) c.plain.ensures
    ∙ sym (ap (λ l. types_onto c.args.self.now.settings c.args.self.now.schema.now c.args.self.now.environment.now (held_view c.args.held.now) (tree_of c.loop-member.joined) (expressions_of l)) (drop_of_length-le c.args.others.now {i = c.loop-member.member-index} (omega arith)))
    ∙ c.loop-member.invariant

pub check_record-loop-pair-init : goal.check_record-loop-pair-init
check_record-loop-pair-init t c =
    let empty = c.new-attributes.ensures.items in record {
      names = ap (map name_of) empty;
      made = (no_attributes, subst (IsMade no_attributes) (sym empty) none_made, refl);
    }

pub check_record-returns-in-Refused : goal.check_record-returns-in-Refused
check_record-returns-in-Refused t c =
    let made = c.loop-pair.invariant.made in
    let none = sym made.2
    ∙ entry_refused c.args.self.now.settings c.args.self.now.schema.now c.args.self.now.environment.now (held_view c.args.held.now) made.0 c.args.pairs.now c.loop-pair.pair-index c.pair-item.result c.loop-pair-test.true c.pair-item.is
    (sym c.in_ok-x.ensures ∙ ap typing_view c.in-Refused.is) in
    sym (ap (λ o. only_if (are_distinct (keys_in (entries_of c.args.pairs.now))) (option_and_then (λ (at : Attributes). as_type (record_of at)) o)) none ∙ nothing (are_distinct (keys_in (entries_of c.args.pairs.now))))

pub check_record-loop-pair-preserved : goal.check_record-loop-pair-preserved
check_record-loop-pair-preserved t c =
    let before = c.loop-pair.invariant in
    let made = before.made in
    let items = c.loop-pair.attributes.items in
    let p = c.pair-item.result in
    let x = typed_view c.in-Typed.x in
    let a : Attribute = record { name = p.0; ty = x.ty; required = true } in
    let old = key_new c.args.pairs.now c.loop-pair.pair-index p c.requires c.loop-pair-test.true c.pair-item.is in
    let new = one_more_made made.0 items a (λ m. old (subst (λ ks. Contains ks p.0) before.names m)) made.1 in
    let names = one_more_name c.args.pairs.now items a c.loop-pair.pair-index p c.loop-pair-test.true c.pair-item.is refl before.names in record {
      names = ap (map name_of) c.in_ok-push_attribute.ensures ∙ names;
      made = (
        with_attribute p.0 true x.ty made.0,
        subst (IsMade (with_attribute p.0 true x.ty made.0)) (sym c.in_ok-push_attribute.ensures) new,
        entry_added c.args.self.now.settings c.args.self.now.schema.now c.args.self.now.environment.now (held_view c.args.held.now) made.0 c.args.pairs.now c.loop-pair.pair-index p x c.loop-pair-test.true c.pair-item.is
            (sym c.in_ok-x.ensures ∙ ap typing_view c.in-Typed.is)
            ∙ made.2,
      );
    }

pub check_record-record_type-requires : goal.check_record-record_type-requires
check_record-record_type-requires t c =
    let done : length c.args.pairs.now ≤ c.loop-pair.pair-index = omega arith in
    let names = c.loop-pair.invariant.names ∙ take_all c.loop-pair.pair-index (keys_of c.args.pairs.now) (rw length-map done) in
    subst AreDistinct (sym names) c.requires

pub check_record-returns : goal.check_record-returns
check_record-returns t c =
    let made = c.loop-pair.invariant.made in
    let entries = types_entries c.args.self.now.settings c.args.self.now.schema.now c.args.self.now.environment.now (held_view c.args.held.now) in
    let end = sym (ap (λ l. entries made.0 (entries_of l)) (drop_of_length-le c.args.pairs.now {i = c.loop-pair.pair-index} (omega arith))) ∙ made.2 in
    let whole = ap (option_and_then (λ (at : Attributes). as_type (record_of at))) end
    ∙ sym (ap (λ b. only_if b (option_and_then (λ (at : Attributes). as_type (record_of at)) (entries no_attributes (entries_of c.args.pairs.now)))) (distinct_names c.args.pairs.now c.requires)) in
    IfOk-weaker c.record_type.result _ _ (λ y h. h.2 ∙ ap (λ (at : Attributes). as_type (record_of at)) (record_made made.0 c.loop-pair.attributes.items h.0 made.1 h.1) ∙ whole) c.record_type.ensures

pub check_members-check-requires : goal.check_members-check-requires
check_members-check-requires t c = (omega (arith, member_depth c.args.others.now c.loop-member.member-index c.member-item.result c.loop-member-test.true c.member-item.is, c.decreases), tt)

pub check_record-check-requires : goal.check_record-check-requires
check_record-check-requires t c = (omega (arith, pair_depth c.args.pairs.now c.loop-pair.pair-index c.pair-item.result c.loop-pair-test.true c.pair-item.is, c.decreases), tt)

pub check-up-init : goal.check-up-init
check-up-init t c =
    let spine = c.new-spine.result in
    let last = spine.last.now in
    let ps = take spine.count spine.passed in
    let all : take (length ps) ps ≡ ps = take_all (length ps) ps (omega arith) in (
      omega arith,
      (last, subst (λ es. Leads c.args.expression.now es last) (sym all) c.new-spine.ensures.leads),
      ap (λ es. rows_from c.args.self.now.settings c.args.self.now.schema.now c.args.self.now.environment.now (held_view c.args.held.now) es (typing_view c.in_ok-typing.typing)) all
          ∙ ap (rows_from c.args.self.now.settings c.args.self.now.schema.now c.args.self.now.environment.now (held_view c.args.held.now) ps) c.in_ok-typing.ensures
          ∙ rows_whole c.args.self.now.settings c.args.self.now.schema.now c.args.self.now.environment.now (held_view c.args.held.now) c.args.expression.now last ps c.new-spine.ensures.leads,
    )

pub check-up-preserved : goal.check-up-preserved
check-up-preserved t c =
    let ps = take c.new-spine.result.count c.new-spine.result.passed in
    let n = c.up.count - 1 in
    let q = c.index-passed-count.result in
    let one : n + 1 ≡ c.up.count = omega (arith, c.up-test.true) in (
      omega (arith, c.up.invariant.0),
      (q.now, way_up c.args.expression.now c.up.invariant.1.0 ps c.up.count n q c.up.invariant.0 one c.index-passed-count.is c.up.invariant.1.1),
      row_up c.args.self.now.settings c.args.self.now.schema.now c.args.self.now.environment.now (held_view c.args.held.now) c.args.expression.now ps c.up.count n q (typing_view c.up.typing) (typing_view c.in_ok-typing-2.typing) c.up.invariant.0 one c.index-passed-count.is c.in_ok-typing-2.ensures c.up.invariant.2,
    )

pub check-check_last-requires : goal.check-check_last-requires
check-check_last-requires t c =
    (omega (arith, last_low c.args.expression.now c.new-spine.result.last.now (take c.new-spine.result.count c.new-spine.result.passed) c.new-spine.ensures.leads, c.decreases), tt)

pub check-check_row-requires : goal.check-check_row-requires
check-check_row-requires t c =
    let ps = take c.new-spine.result.count c.new-spine.result.passed in
    let n = c.up.count - 1 in
    let q = c.index-passed-count.result in
    let one : n + 1 ≡ c.up.count = omega (arith, c.up-test.true) in
    let way = way_up c.args.expression.now c.up.invariant.1.0 ps c.up.count n q c.up.invariant.0 one c.index-passed-count.is c.up.invariant.1.1 in
    (omega (arith, last_low c.args.expression.now q.now (take n ps) way, c.decreases), tt)

pub check_above-returns : goal.check_above-returns
check_above-returns t c =
    subst (λ (r : Option Typed). IfOk c.check_row.result (λ y. typing_view y ≡ r))
    (ap (row_from c.args.self.now.settings c.args.self.now.schema.now c.args.self.now.environment.now (held_view c.args.held.now) c.args.expression.now) c.in_ok-typing.ensures ∙ row_whole c.args.self.now.settings c.args.self.now.schema.now c.args.self.now.environment.now (held_view c.args.held.now) c.args.expression.now c.args.left.now c.requires)
    c.check_row.ensures

pub check_and-parts-preserved : goal.check_and-parts-preserved
check_and-parts-preserved t c =
    let type_of = type_of_with c.args.self.now.settings c.args.self.now.schema.now c.args.self.now.environment.now in
    let first = c.deref.result.now in
    let others = c.deref-rest.result.now in
    let own : c.parts.rest.now ≡ and c.in-And.first.value c.in-And.others.value = cc in
    let same : c.parts.rest.now ≡ and first others = own ∙ ap (λ e. and e c.in-And.others.value) (sym c.deref.ensures) ∙ ap (and first) (sym c.deref-rest.ensures) in (
      omega (arith, ap depth same, c.parts.invariant.0),
      ap (λ o. on_boolean o (and_type (held_view c.args.held.now) (λ k. type_of k others))) c.in_ok-typing.ensures
          ∙ regrouped (held_view c.args.held.now) (λ k. type_of k others) (λ k. type_of k first) (typing_view c.parts.typing)
          ∙ ap (λ e. on_boolean (typing_view c.parts.typing) (and_type (held_view c.args.held.now) (λ k. type_of k e))) (sym same)
          ∙ c.parts.invariant.1,
    )

pub check_and-returns : goal.check_and-returns
check_and-returns t c = subst (λ (r : Option Typed). IfOk c.check_part-2.result (λ y. typing_view y ≡ r)) c.parts.invariant.1 c.check_part-2.ensures
