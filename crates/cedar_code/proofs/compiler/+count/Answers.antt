use Rattle.std.proofs.Common.{◌≡◌, ◌+◌, suc, take, ap, ◌∙◌, sym, arith}
use Rattle.cedar_ast_expressions.specs.Private.Depth.{depth, list_depth, pairs_depth, most_doubled}
use Rattle.cedar_ast_expressions.specs.Expression.{set_with, record_with, expressions_of, entries_of}
use Rattle.cedar_ast_expressions.specs.declared.entries.Entries.TheDeep.{size-Expr}
use Rattle.cedar_code.specs.Code.{size, size_all, size_entries}
use Rattle.cedar_code.proofs.Falls.{size_low, most_pairs, pair_size}
use Rattle.cedar_code.proofs.Sizes.{size_all-snoc, size_entries-snoc}
use Rattle.cedar_code.proofs.Taken.{taken_more}
use Rattle.cedar_code.proofs.compiler.+count.Goals as goal

pub count_entries-loop-pair-preserved : goal.count_entries-loop-pair-preserved
count_entries-loop-pair-preserved t c =
    let before = take c.loop-pair.pair-index c.args.pairs.now in
    let more = taken_more c.args.pairs.now c.loop-pair.pair-index c.pair-item.result c.loop-pair-test.true c.pair-item.is in
    let all : size_entries (entries_of (take (c.loop-pair.pair-index + 1) c.args.pairs.now)) ≡ size_entries (entries_of before) + size c.pair-item.result.1 =
    ap (λ ps. size_entries (entries_of ps)) more ∙ size_entries-snoc before c.pair-item.result in
    omega (arith, all, c.loop-pair.invariant, c.instruction_count.ensures, c.saturating_add-count.ensures)

pub count_members-loop-member-preserved : goal.count_members-loop-member-preserved
count_members-loop-member-preserved t c =
    let before = take c.loop-member.member-index c.args.members.now in
    let more = taken_more c.args.members.now c.loop-member.member-index c.member-item.result c.loop-member-test.true c.member-item.is in
    let all : size_all (expressions_of (take (c.loop-member.member-index + 1) c.args.members.now)) ≡ size_all (expressions_of before) + size c.member-item.result =
    ap (λ es. size_all (expressions_of es)) more ∙ size_all-snoc before c.member-item.result in
    omega (arith, all, c.loop-member.invariant, c.instruction_count.ensures, c.saturating_add-count.ensures)

pub instruction_count-count_members-requires : goal.instruction_count-count_members-requires
instruction_count-count_members-requires t c =
    let items : c.deref-in-Set.result.now ≡ c.in-Set.members.items = c.deref-in-Set.ensures.value in
    let own : c.args.expression.now ≡ set_with (expressions_of c.in-Set.members.items) = cc in
    let high : depth c.args.expression.now ≡ suc (list_depth c.deref-in-Set.result.now) = ap depth own ∙ ap (λ es. suc (list_depth es)) (sym items) in
    (omega (arith, high, most_doubled size-Expr size_low c.deref-in-Set.result.now), tt)

pub instruction_count-count_entries-requires : goal.instruction_count-count_entries-requires
instruction_count-count_entries-requires t c =
    let pairs : c.pairs.result.now ≡ c.in-Record.entries = c.pairs.ensures.pairs in
    let own : c.args.expression.now ≡ record_with (entries_of c.in-Record.entries) = cc in
    let high : depth c.args.expression.now ≡ suc (pairs_depth c.pairs.result.now) = ap depth own ∙ ap (λ ps. suc (pairs_depth ps)) (sym pairs) in
    (omega (arith, high, most_pairs pair_size (λ f. omega arith) c.pairs.result.now), tt)
