use Rattle.base_bits.proofs.Lanes.{shared_apart, shared_found}
use Rattle.base_bits.proofs.common.any_common_lane.Goals as goal

pub returns-clause-found : goal.returns-clause-found
returns-clause-found c = shared_found c.args.a.now c.args.b.now c.args.at c.requires.in_a c.requires.in_b

pub returns-clause-apart : goal.returns-clause-apart
returns-clause-apart c = shared_apart c.args.a.now c.args.b.now c.args.at c.requires.in_a c.requires.in_b
