use Rattle.std.proofs.Common.{◌*◌, ◌+◌, w64, get_or, refl, add-zero, arith}
use Rattle.std.specs.Int.{trailing_zeros}
use Rattle.base_bits.proofs.NextBits.{IsMasked-whole, next_found, next_later}
use Rattle.base_bits.proofs.next.first_bit.Goals as goal

pub returns-then-word-ne0-clause-found : goal.returns-then-word-ne0-clause-found
returns-then-word-ne0-clause-found c =
    let row = c.args.row.now in
    let place = c.loop-place.place in
    let word = get_or row place 0 in
    let begun = c.loop-place.auto.place in
    let here = next_found row place 0 word (IsMasked-whole row place word refl (c.type_inv.row place).fits) (omega arith) in
    next_later row (c.args.start * 64) (place * 64) (place * 64 + trailing_zeros w64 word) (omega arith) c.loop-place.invariant (rw add-zero at here)
