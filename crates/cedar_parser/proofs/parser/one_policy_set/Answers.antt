use Rattle.cedar_parser.proofs.OneReading.{one_policy_set_by}
use Rattle.cedar_parser.proofs.parser.one_policy_set.Goals as goal

pub returns : goal.returns
returns c = one_policy_set_by c.one_list.ensures c.one_spelling.ensures
