use Rattle.std.proofs.Common.{◌*◌, ◌+◌, ◌/◌, arith}
use Rattle.base_bits.proofs.NextBits.{next_in_word, none_up_to_word, if_next_later, if_none_later}
use Rattle.base_bits.proofs.next.next_bit.Goals as goal

pub returns-then-word-ne0-clause-found : goal.returns-then-word-ne0-clause-found
returns-then-word-ne0-clause-found c =
    let from = c.args.from in
    next_in_word c.args.row.now from c.in-Some.word.now (c.in-Some.ensures.lookup.3.1 0) (c.type_inv.row (from / 64)) (omega arith)

pub returns-clause-found : goal.returns-clause-found
returns-clause-found c =
    let row = c.args.row.now in
    let from = c.args.from in
    let none = none_up_to_word row from c.in-Some.word.now (c.in-Some.ensures.lookup.3.1 0) (c.type_inv.row (from / 64)) (omega arith) in
    if_next_later c.first_bit.result row from ((from / 64 + 1) * 64) (omega arith) none c.first_bit.ensures.found

pub returns-clause-none : goal.returns-clause-none
returns-clause-none c =
    let row = c.args.row.now in
    let from = c.args.from in
    let none = none_up_to_word row from c.in-Some.word.now (c.in-Some.ensures.lookup.3.1 0) (c.type_inv.row (from / 64)) (omega arith) in
    if_none_later c.first_bit.result row from ((from / 64 + 1) * 64) none c.first_bit.ensures.none
