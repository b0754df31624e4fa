use Rattle.cedar_schema_json.proofs.Words.{read_some, read_none}
use Rattle.cedar_schema_json.proofs.json.naming.read_name.Goals as goal

pub returns-in-Some : goal.returns-in-Some
returns-in-Some c =
    read_some c.args.text.now c.in-Some.name c.in_ok-name.field-0 c.is_reserved.result c.is_reserved.ensures c.if-is_reserved.false c.in_ok-name.ensures.given c.in_ok-name.ensures.path c.in-Some.is

pub returns-in-None : goal.returns-in-None
returns-in-None c = read_none c.args.text.now c.in_ok-name.field-0 c.in_ok-name.ensures.given c.in-None.is
