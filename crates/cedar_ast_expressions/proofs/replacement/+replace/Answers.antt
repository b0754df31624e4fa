use Rattle.std.proofs.Common.{◌≡◌, map, ap, ◌∙◌, arith}
use Rattle.std.proofs.lemmas.List.{take_all}
use Rattle.std.proofs.lemmas.Result.{IfOk-weaker}
use Rattle.cedar_ast_expressions.specs.Expression.{set_with, record_with, expressions_of, entries_of}
use Rattle.cedar_ast_expressions.specs.Keys.{keys_of}
use Rattle.cedar_ast_expressions.specs.Private.Replaced.{replaced_by, replaced_pair, by_set, by_record, same_keys}
use Rattle.cedar_ast_expressions.proofs.Lists.{member_depth, pair_depth}
use Rattle.cedar_ast_expressions.proofs.replacement.+replace.Goals as goal

pub replaced_set-replaced_part-requires : goal.replaced_set-replaced_part-requires
replaced_set-replaced_part-requires t c = (omega (arith, member_depth c.args.members.now c.loop-member.member-index c.member-item.result c.loop-member-test.true c.member-item.is), tt)

pub replaced_pairs-replaced_part-requires : goal.replaced_pairs-replaced_part-requires
replaced_pairs-replaced_part-requires t c = (omega (arith, pair_depth c.args.pairs.now c.loop-pair.pair-index c.pair-item.result c.loop-pair-test.true c.pair-item.is), tt)

pub replaced_record-with_keys_of-requires : goal.replaced_record-with_keys_of-requires
replaced_record-with_keys_of-requires t c =
    let o = c.args.action in
    ap keys_of (c.in_ok-pairs.ensures ∙ ap (map (replaced_pair o)) c.pairs.ensures.pairs) ∙ same_keys o c.args.entries.now

pub replaced_set-returns : goal.replaced_set-returns
replaced_set-returns t c =
    let o = c.args.action in
    let all : set_with (expressions_of c.loop-member.copies.items) ≡ replaced_by o (set_with (expressions_of c.args.members.now)) =
    ap (λ es. set_with (expressions_of es)) (c.loop-member.invariant ∙ ap (map (replaced_by o)) (take_all c.loop-member.member-index c.args.members.now c.loop-member-test.false))
    ∙ by_set o c.args.members.now in
    IfOk-weaker c.boxed_set.result _ _ (λ b e. e ∙ all) c.boxed_set.ensures

pub replaced_record-returns : goal.replaced_record-returns
replaced_record-returns t c =
    let o = c.args.action in
    let all : record_with (entries_of c.with_keys_of.result) ≡ replaced_by o (record_with (entries_of c.args.entries.now)) =
    ap (λ ps. record_with (entries_of ps)) (c.with_keys_of.ensures ∙ c.in_ok-pairs.ensures ∙ ap (map (replaced_pair o)) c.pairs.ensures.pairs)
    ∙ by_record o c.args.entries.now in
    IfOk-weaker c.boxed_record.result _ _ (λ b e. e ∙ all) c.boxed_record.ensures
