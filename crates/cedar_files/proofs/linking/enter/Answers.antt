use Rattle.cedar_files.proofs.Links.{link-refused}
use Rattle.cedar_files.proofs.linking.enter.Goals as goal

pub returns-clause-refused : goal.returns-clause-refused
returns-clause-refused c =
    link-refused c.args.policies.now c.args.link.now c.as_str.result.now c.as_str-2.result.now c.link.result c.as_str.ensures c.as_str-2.ensures
    c.link.ensures.duplicate c.link.ensures.no_such_template c.link.ensures.missing c.link.ensures.extra
