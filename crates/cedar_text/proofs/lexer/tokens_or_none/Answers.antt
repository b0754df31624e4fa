use Rattle.cedar_text.proofs.Whole.{tokens_or_none_by}
use Rattle.cedar_text.proofs.lexer.tokens_or_none.Goals as goal

pub returns : goal.returns
returns c = tokens_or_none_by
