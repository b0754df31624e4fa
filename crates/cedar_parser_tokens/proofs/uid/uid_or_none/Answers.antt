use Rattle.cedar_parser_tokens.proofs.UidOrNone.{uid_or_none_by}
use Rattle.cedar_parser_tokens.proofs.uid.uid_or_none.Goals as goal

pub returns : goal.returns
returns c = uid_or_none_by c.one_list.ensures c.one_spelling.ensures c.letters_or_none.ensures c.tokens_or_none.ensures
