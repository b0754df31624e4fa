use Rattle.std.proofs.Common.{sym, ℕ, List, subst}
use Rattle.std.specs.Prelude.{IfOk, MatchOption}
use Rattle.cedar_value.specs.declared.uid.Uid.{Uid as UidTree}
use Rattle.cedar_parser_tokens.specs.UidText.{IsUidText}
use Rattle.cedar_conform.proofs.uids.quoted_uid.Goals as goal

pub returns-in-None : goal.returns-in-None
returns-in-None c =
    subst (λ (xs : List ℕ). IfOk c.joined_uid.result (λ found. MatchOption found ((u : UidTree) → ¬ IsUidText xs u) (IsUidText xs))) (sym c.parts.ensures.whole) c.joined_uid.ensures
