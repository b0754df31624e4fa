use Rattle.cedar_text.proofs.Firsts.{one_spelling_by}
use Rattle.cedar_text.proofs.spelling.one_spelling.Goals as goal

pub returns : goal.returns
returns c = one_spelling_by
