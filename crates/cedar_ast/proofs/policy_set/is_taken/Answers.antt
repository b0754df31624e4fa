use Rattle.std.proofs.Common.{◌∙◌, sym, true≢false}
use Rattle.cedar_ast.proofs.PolicyIdLemmas.{Contains-found, found-Contains}
use Rattle.cedar_ast.proofs.policy_set.is_taken.Goals as goal

pub returns-clause-taken : goal.returns-clause-taken
returns-clause-taken g c = λ e. Contains-found _ _ (sym c.contains_key.ensures ∙ e)

pub returns-clause-free : goal.returns-clause-free
returns-clause-free g c = λ e here.
    let found = c.contains_key.ensures ∙ found-Contains c.args.id.now _ here in
    true≢false (sym found ∙ e)
