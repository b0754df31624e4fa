use Rattle.cedar_conform_values.proofs.Belongs.{read_values_belong}
use Rattle.cedar_conform_values.proofs.laws.read_values_belong.Goals as goal

pub returns : goal.returns
returns c = read_values_belong
