use Rattle.cedar_text.proofs.EveryString.{every_string_by}
use Rattle.cedar_text.proofs.spelling.every_string_is_spelled.Goals as goal

pub returns : goal.returns
returns c = every_string_by
