use Rattle.std.proofs.Common.{codes}
use Rattle.cedar_conform_entities.proofs.EntryLemmas.{ends_in}
use Rattle.cedar_conform_entities.proofs.judging.is_in_namespace.Goals as goal

pub returns : goal.returns
returns c = ends_in c.args.text.now (codes "::Action") c.ends_with.result c.ends_with.ensures.value
