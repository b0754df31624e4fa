use Rattle.std.proofs.Common.{◌≡◌, ◌∙◌, ◌+◌, [], ◌∷◌, ◌++◌, length, take, ap, refl, sym, length-append, arith}
use Rattle.std.proofs.lemmas.Result.{on_ok_weaker}
use Rattle.std.proofs.lemmas.List.{take_all}
use Rattle.cedar_ast_expressions.specs.Expression.{expressions_of, entries_of}
use Rattle.cedar_code.specs.Code.{code_all, code_entries}
use Rattle.cedar_ast_expressions.specs.Keys.{keys_of}
use Rattle.cedar_code.specs.declared.instruction.Instruction.TheVariants.{And, Or, Test}
use Rattle.cedar_code.proofs.Emitted.{emitted_binary, emitted_short_circuit, emitted_branches, emitted_member, emitted_entry, emitted_set, emitted_record}
use Rattle.cedar_code.proofs.Falls.{member_depth, pair_depth}
use Rattle.cedar_code.proofs.Taken.{taken_more}
use Rattle.cedar_code.proofs.compiler.+emit.Goals as goal

pub emit_members-emit-requires : goal.emit_members-emit-requires
emit_members-emit-requires t c = (omega (arith, member_depth c.args.members.now c.loop-member.member-index c.member-item.result c.loop-member-test.true c.member-item.is), tt)

pub emit_entries-emit-requires : goal.emit_entries-emit-requires
emit_entries-emit-requires t c = (omega (arith, pair_depth c.args.pairs.now c.loop-pair.pair-index c.pair-item.result c.loop-pair-test.true c.pair-item.is), tt)

pub emit_entries-loop-pair-preserved : goal.emit_entries-loop-pair-preserved
emit_entries-loop-pair-preserved t c =
    let before = take c.loop-pair.pair-index c.args.pairs.now in
    let more = taken_more c.args.pairs.now c.loop-pair.pair-index c.pair-item.result c.loop-pair-test.true c.pair-item.is in
    emitted_entry c.args.code.now.items c.loop-pair.code.items c.emit.new.code.items before c.pair-item.result c.loop-pair.invariant c.in_ok-emit.ensures
    ∙ ap (λ l. c.args.code.now.items ++ code_entries (length c.args.code.now.items) (entries_of l)) (sym more)

pub emit_entries-returns : goal.emit_entries-returns
emit_entries-returns t c =
    c.loop-pair.invariant
    ∙ ap (λ l. c.args.code.now.items ++ code_entries (length c.args.code.now.items) (entries_of l)) (take_all c.loop-pair.pair-index c.args.pairs.now c.loop-pair-test.false)

pub emit_members-loop-member-preserved : goal.emit_members-loop-member-preserved
emit_members-loop-member-preserved t c =
    let before = take c.loop-member.member-index c.args.members.now in
    let more = taken_more c.args.members.now c.loop-member.member-index c.member-item.result c.loop-member-test.true c.member-item.is in
    emitted_member c.args.code.now.items c.loop-member.code.items c.emit.new.code.items before c.member-item.result c.loop-member.invariant c.in_ok-emit.ensures
    ∙ ap (λ l. c.args.code.now.items ++ code_all (length c.args.code.now.items) (expressions_of l)) (sym more)

pub emit_members-returns : goal.emit_members-returns
emit_members-returns t c =
    c.loop-member.invariant
    ∙ ap (λ l. c.args.code.now.items ++ code_all (length c.args.code.now.items) (expressions_of l)) (take_all c.loop-member.member-index c.args.members.now c.loop-member-test.false)

pub emit_binary-returns : goal.emit_binary-returns
emit_binary-returns t c =
    on_ok_weaker c.put_binary.result
    (λ put. emitted_binary c.args.operator c.args.code.now.items c.emit.new.code.items c.emit-2.new.code.items c.put_binary.new.code.items c.args.left.now c.args.right.now
    c.in_ok-emit.ensures c.in_ok-emit-2.ensures put)
    c.put_binary.ensures

pub emit_and-returns : goal.emit_and-returns
emit_and-returns t c =
    let c3 = c.emit-2.new.code.items in
    on_ok_weaker c.end_and.result
    (λ written. written ∙ emitted_short_circuit And Test c.len-jump.result (length c3 + 1) c.args.code.now.items c.emit.new.code.items c.put_test.new.code.items c3 (c3 ++ Test ∷ []) c.args.left.now c.args.right.now
    c.in_ok-emit.ensures (c.len-jump.ensures ∙ c.emit.new.code.ok.0) c.in_ok-put_test.ensures c.in_ok-emit-2.ensures refl (sym (length-append c3 (Test ∷ []))))
    c.end_and.ensures

pub emit_or-returns : goal.emit_or-returns
emit_or-returns t c =
    let c3 = c.emit-2.new.code.items in
    on_ok_weaker c.end_or.result
    (λ written. written ∙ emitted_short_circuit Or Test c.len-jump.result (length c3 + 1) c.args.code.now.items c.emit.new.code.items c.put_test.new.code.items c3 (c3 ++ Test ∷ []) c.args.left.now c.args.right.now
    c.in_ok-emit.ensures (c.len-jump.ensures ∙ c.emit.new.code.ok.0) c.in_ok-put_test.ensures c.in_ok-emit-2.ensures refl (sym (length-append c3 (Test ∷ []))))
    c.end_or.ensures

pub emit_if-returns : goal.emit_if-returns
emit_if-returns t c =
    c.end_if.ensures
    ∙ emitted_branches c.len-branch.result c.len-jump.result c.len-other.result (length c.emit-3.new.code.items)
    c.args.code.now.items c.emit.new.code.items c.put_test.new.code.items c.emit-2.new.code.items c.put_test-2.new.code.items c.emit-3.new.code.items
    c.args.condition.now c.args.first.now c.args.second.now
    c.in_ok-emit.ensures (c.len-branch.ensures ∙ c.emit.new.code.ok.0) c.in_ok-put_test.ensures
    c.in_ok-emit-2.ensures (c.len-jump.ensures ∙ c.emit-2.new.code.ok.0) c.in_ok-put_test-2.ensures
    (c.len-other.ensures ∙ c.put_test-2.new.code.ok.0) c.in_ok-emit-3.ensures refl

pub emit_set-returns : goal.emit_set-returns
emit_set-returns t c =
    on_ok_weaker c.put.result
    (λ put. emitted_set c.args.code.now.items c.emit_members.new.code.items c.put.new.code.items c.args.members.now (length c.args.members.now)
    c.in_ok-emit_members.ensures refl put)
    c.put.ensures

pub emit_record-returns : goal.emit_record-returns
emit_record-returns t c =
    let base = c.args.code.now.items in
    let entries = c.args.entries.now in
    let values : c.emit_entries.new.code.items ≡ base ++ code_entries (length base) (entries_of entries) =
    c.in_ok-emit_entries.ensures ∙ ap (λ ps. base ++ code_entries (length base) (entries_of ps)) c.pairs.ensures.pairs in
    on_ok_weaker c.put_record.result
    (λ put. emitted_record base c.emit_entries.new.code.items c.put_record.new.code.items entries (keys_of entries) values refl put)
    c.put_record.ensures
