use Rattle.std.proofs.Common.{subst}
use Rattle.std.specs.Prelude.{IfOk, MatchOption}
use Rattle.serde_json.specs.Data.{Data}
use Rattle.cedar_value.specs.declared.uid.Uid.{Uid as UidTree}
use Rattle.cedar_conform_values.specs.WrittenUids.{IsUidObject}
use Rattle.cedar_conform.proofs.uids.uid_of_tree.Goals as goal

pub returns : goal.returns
returns c =
    subst (λ (d : Data). IfOk c.uid_of_object.result (λ uid. MatchOption uid ((u : UidTree) → ¬ IsUidObject d u) (IsUidObject d))) c.in_ok-tree.ensures c.uid_of_object.ensures
