use Rattle.cedar_conform.proofs.WithEntitiesLemmas.{plain_lines}
use Rattle.cedar_conform.proofs.laws.plain_lines_mean_the_same.Goals as goal

pub returns : goal.returns
returns c = plain_lines
