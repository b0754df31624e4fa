use Rattle.std.proofs.Common.{rules, arith, ◌≡◌}
use Rattle.std.proofs.lemmas.Grind.{common_steps}
use Rattle.cedar_text.specs.Private.Lexing.{piece, sign_at}
use Rattle.cedar_text.proofs.piece.first_piece.Goals as goal

pub returns : goal.returns
unfolding piece
returns c =
    let sign : piece c.args.bytes.now ≡ sign_at c.args.bytes.now = first_of (search rules, grind (arith, common_steps)) in rw sign c.sign.ensures
