use Rattle.std.proofs.Common.{arith}
use Rattle.base_bits.proofs.Rows.{has_bit-with_bit}
use Rattle.base_bits.proofs.row.set_bit.Goals as goal

pub returns : goal.returns
returns c = has_bit-with_bit c.args.words.now c.args.n (omega arith)
