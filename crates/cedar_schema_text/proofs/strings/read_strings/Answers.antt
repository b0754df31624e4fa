use Rattle.cedar_schema_text.proofs.Denoting.{read_turn}
use Rattle.cedar_schema_text.proofs.strings.read_strings.Goals as goal

pub loop-piece-preserved : goal.loop-piece-preserved
loop-piece-preserved c = read_turn c.args.pieces.now c.loop-piece.piece-index _ c.loop-piece.found.items c.push.new.self.items c.in_ok-read_one.field-0 c.loop-piece-test.true c.loop-piece.invariant c.in_ok-read_one.ensures c.in_ok-push.ensures.items
