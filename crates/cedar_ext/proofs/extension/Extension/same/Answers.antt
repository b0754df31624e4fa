use Rattle.std.proofs.Common.{subst, sym}
use Rattle.cedar_ext.specs.Private.ExtensionLemmas.{same_extension-Decides}
use Rattle.cedar_ext.proofs.extension.Extension.same.Goals as goal

pub returns-clause-equal : goal.returns-clause-equal
returns-clause-equal c = rw (c.is_value.ensures) (same_extension-Decides c.args.self.now c.args.other.now)
