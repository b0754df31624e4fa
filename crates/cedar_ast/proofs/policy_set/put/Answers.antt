use Rattle.std.proofs.Common.{◌∙◌}
use Rattle.std.specs.String.{string_eq}
use Rattle.indexmap.proofs.CallerLemmas.{insert_entry-new}
use Rattle.cedar_ast.proofs.policy_set.put.Goals as goal

pub returns-clause-ok : goal.returns-clause-ok
returns-clause-ok g c =
    c.in_ok-insert.ensures.entries ∙ insert_entry-new string_eq c.args.entries.now c.args.id c.args.value c.requires
