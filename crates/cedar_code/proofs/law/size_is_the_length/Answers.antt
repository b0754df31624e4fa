use Rattle.cedar_code.proofs.Sizes.{length-code_at}
use Rattle.cedar_code.proofs.law.size_is_the_length.Goals as goal

pub returns : goal.returns
returns c = length-code_at
