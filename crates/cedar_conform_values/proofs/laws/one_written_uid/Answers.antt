use Rattle.cedar_conform_values.proofs.UidLemmas.{writes_one}
use Rattle.cedar_conform_values.proofs.laws.one_written_uid.Goals as goal

pub returns : goal.returns
returns c = writes_one c.one_uid.ensures
