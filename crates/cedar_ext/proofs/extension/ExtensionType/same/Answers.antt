use Rattle.std.proofs.Common.{subst, sym}
use Rattle.cedar_ext.specs.Private.ExtensionLemmas.{same_type-Decides}
use Rattle.cedar_ext.proofs.extension.ExtensionType.same.Goals as goal

pub returns-clause-equal : goal.returns-clause-equal
returns-clause-equal c = rw (c.is_type.ensures) (same_type-Decides c.args.self c.args.other)
