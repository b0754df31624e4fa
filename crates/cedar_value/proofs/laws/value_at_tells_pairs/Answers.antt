use Rattle.cedar_value.proofs.Made.{value_at-Contains, Contains-value_at}
use Rattle.cedar_value.proofs.laws.value_at_tells_pairs.Goals as goal

pub returns : goal.returns
returns c = λ ps distinct k v. (value_at-Contains ps k v, Contains-value_at ps distinct k v)
