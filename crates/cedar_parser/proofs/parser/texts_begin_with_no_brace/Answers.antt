use Rattle.cedar_parser.proofs.NoBrace.{no_brace}
use Rattle.cedar_parser.proofs.parser.texts_begin_with_no_brace.Goals as goal

pub returns : goal.returns
returns c = no_brace
