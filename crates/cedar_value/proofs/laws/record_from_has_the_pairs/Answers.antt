use Rattle.cedar_value.proofs.Keys.{record_from-pairs}
use Rattle.cedar_value.proofs.Made.{record_from-pairs_of, record_from-ascending_keys, record_from-itself}
use Rattle.cedar_value.proofs.laws.record_from_has_the_pairs.Goals as goal

pub returns-clause-pairs : goal.returns-clause-pairs
returns-clause-pairs c = record_from-pairs_of

pub returns-clause-ascending : goal.returns-clause-ascending
returns-clause-ascending c = record_from-ascending_keys

pub returns-clause-only : goal.returns-clause-only
returns-clause-only c = record_from-pairs

pub returns-clause-itself : goal.returns-clause-itself
returns-clause-itself c = record_from-itself
