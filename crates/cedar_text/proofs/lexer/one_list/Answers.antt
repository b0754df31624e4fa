use Rattle.cedar_text.proofs.Whole.{one_list_by}
use Rattle.cedar_text.proofs.lexer.one_list.Goals as goal

pub returns : goal.returns
returns c = one_list_by
