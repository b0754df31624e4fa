use Rattle.std.proofs.Common.{◌≡◌, ◌<◌, ◌/◌, ◌%◌, ◌*◌, ◌^◌, ◌||◌, length, get_or, set, bit_or, nat_eq, ap, ◌∙◌, arith}
use Rattle.std.proofs.lemmas.Grind.{get_or_default_zero}
use Rattle.base_bits.specs.Bits.{has_bit}
use Rattle.base_bits.proofs.Rows.{has_bit-with_bit, same_bits}
use Rattle.base_bits.proofs.row.insert_bit.Goals as goal

pub returns-clause-set : goal.returns-clause-set
returns-clause-set c m =
    let row = c.grow.new.row.items in
    let n = c.args.n in
    let sized = c.grow.new.row.ok.0 in
    let long = c.in_ok-grow.ensures.long in
    let within : n / 64 < length row = omega arith in
    let read : c.index_mut.result.now ≡ get_or row (n / 64) 0 = c.index_mut.ensures.value ∙ get_or_default_zero row (n / 64) c.index_mut.result.now within in
    ap (λ w. has_bit (set row (n / 64) (bit_or w (1 * 2 ^ (n % 64) % 2 ^ 64))) m) read
    ∙ has_bit-with_bit row n within m ∙ ap (λ b. b || nat_eq n m) (same_bits c.args.row.now.items row c.in_ok-grow.ensures.same m)
