use Rattle.cedar_text.proofs.LettersOrNone.{letters_or_none_by}
use Rattle.cedar_text.proofs.spelling.letters_or_none.Goals as goal

pub returns : goal.returns
returns c = letters_or_none_by
