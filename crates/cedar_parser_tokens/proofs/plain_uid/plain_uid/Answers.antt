use Rattle.cedar_parser_tokens.proofs.PlainUids.{plain_uid_is}
use Rattle.cedar_parser_tokens.proofs.plain_uid.plain_uid.Goals as goal

pub returns : goal.returns
returns c = plain_uid_is c.args.source.now c.in-Some.path.now c.in-Some.id.now c.in_ok-ty.field-0 c.in-Some-2.ty c.in_ok-id.id c.in_ok-ty.ensures.given.0 c.in_ok-ty.ensures.path c.in-Some.ensures c.in-Some-2.is c.in_ok-id.ensures
