use Rattle.cedar_value.specs.Private.Equality.{same-Decides}
use Rattle.cedar_value.proofs.laws.same_tells_equal_values.Goals as goal

pub returns : goal.returns
returns c = same-Decides
