use Rattle.cedar_parser.proofs.WidestTexts.{read_in_widest}
use Rattle.cedar_parser.proofs.parser.texts_of_each_language.Goals as goal

pub returns : goal.returns
returns c = read_in_widest
