use Rattle.cedar_parser_tokens.proofs.OneUid.{one_uid_by}
use Rattle.cedar_parser_tokens.proofs.uid.one_uid.Goals as goal

pub returns : goal.returns
returns c = one_uid_by c.one_list.ensures c.one_spelling.ensures
