use Rattle.cedar_value.proofs.NameWords.{is_name-Decides}
use Rattle.cedar_value.proofs.laws.is_name_tells_names.Goals as goal

pub returns : goal.returns
returns c = is_name-Decides
