use Rattle.cedar_code.proofs.TrueSides.{sides_passed}
use Rattle.cedar_code.proofs.law.true_sides_are_passed.Goals as goal

pub returns : goal.returns
returns c = λ sides last q w all. sides_passed sides last q w all
