use Rattle.std.proofs.Common.{◌≡◌, ap, sym, subst, ◌∙◌, arith}
use Rattle.std.specs.Bool.{Decides}
use Rattle.std.specs.Str.{bytes_eq}
use Rattle.std.proofs.lemmas.Slice.Eq.{bytes_eq-Decides}
use Rattle.cedar_value.specs.Private.Equality.{same-Decides}
use Rattle.cedar_ast_expressions.specs.Expression.{literal, set_with, record_with, expressions_of, entries_of}
use Rattle.cedar_ast_expressions.proofs.Lists.{same_list, same_pairs_list, member_depth, pair_depth, taken_both, equal_where, pair_same}
use Rattle.cedar_ast_expressions.proofs.equality.+same.Goals as goal

pub same-returns-in-Literal-kind : goal.same-returns-in-Literal-kind
same-returns-in-Literal-kind t c =
    let a : c.args.one.now ≡ literal c.in-Literal.first = cc in
    let b : c.args.two.now ≡ literal c.in-Literal-kind.second = cc in
    let d : Decides c.eq.result (c.in-Literal.first ≡ c.in-Literal-kind.second) = subst (λ r. Decides r (c.in-Literal.first ≡ c.in-Literal-kind.second)) (sym c.eq.ensures) (same-Decides c.in-Literal.first c.in-Literal-kind.second) in
    (λ h. a ∙ ap literal (d.0 h) ∙ sym b, λ e. d.1 (let f : literal c.in-Literal.first ≡ literal c.in-Literal-kind.second = sym a ∙ e ∙ b in cc))

pub same-returns-in-Set-kind : goal.same-returns-in-Set-kind
same-returns-in-Set-kind t c =
    let a : c.args.one.now ≡ set_with (expressions_of c.in-Set.first.items) = cc in
    let b : c.args.two.now ≡ set_with (expressions_of c.in-Set-kind.second.items) = cc in
    let x = c.deref-in-Set-kind.ensures.value in
    let y = c.deref-in-Set-kind-2.ensures.value in (
      λ h. a ∙ ap (λ es. set_with (expressions_of es)) (sym x ∙ c.same_members.ensures.0 h ∙ y) ∙ sym b,
      λ e. c.same_members.ensures.1 (let d : set_with (expressions_of c.in-Set.first.items) ≡ set_with (expressions_of c.in-Set-kind.second.items) = sym a ∙ e ∙ b in
          let f : expressions_of c.in-Set.first.items ≡ expressions_of c.in-Set-kind.second.items = cc in
          x ∙ same_list _ _ f ∙ sym y),
    )

pub same-returns-in-Record-kind : goal.same-returns-in-Record-kind
same-returns-in-Record-kind t c =
    let a : c.args.one.now ≡ record_with (entries_of c.in-Record.first) = cc in
    let b : c.args.two.now ≡ record_with (entries_of c.in-Record-kind.second) = cc in
    let x = c.pairs.ensures.pairs in
    let y = c.pairs-in-Record-kind.ensures.pairs in (
      λ h. a ∙ ap (λ es. record_with (entries_of es)) (sym x ∙ c.same_pairs.ensures.0 h ∙ y) ∙ sym b,
      λ e. c.same_pairs.ensures.1 (let d : record_with (entries_of c.in-Record.first) ≡ record_with (entries_of c.in-Record-kind.second) = sym a ∙ e ∙ b in
          let f : entries_of c.in-Record.first ≡ entries_of c.in-Record-kind.second = cc in
          x ∙ same_pairs_list _ _ f ∙ sym y),
    )

pub same_members-same-requires : goal.same_members-same-requires
same_members-same-requires t c = (omega (arith, member_depth c.args.one.now c.loop-place.place c.index-one-place.result c.loop-place-test.true c.index-one-place.is), tt)

pub same_pairs-same-requires : goal.same_pairs-same-requires
same_pairs-same-requires t c = (omega (arith, pair_depth c.args.one.now c.loop-place.place c.index-one-place.result c.loop-place-test.true c.index-one-place.is), tt)

pub same_pairs-loop-place-preserved : goal.same_pairs-loop-place-preserved
same_pairs-loop-place-preserved t c =
    let x = c.index-one-place.result in
    let y = c.index-two-place.result in
    let keys = (bytes_eq-Decides x.0 y.0).0 (equal_where (bytes_eq x.0 y.0) (sym c.ne.ensures ∙ c.if-ne.false)) in
    let same_length = c.loop-place.invariant.same_length in
    let high = c.loop-place-test.true in
    record {
      same_length = same_length;
      so_far = taken_both c.args.one.now c.args.two.now c.loop-place.place x y high (omega arith) c.index-one-place.is c.index-two-place.is (pair_same x y keys (c.same.ensures.0 c.if-not-same.false)) c.loop-place.invariant.so_far;
    }
