use Rattle.std.proofs.Common.{ℕ, List, ◌++◌, ap, ◌∙◌}
use Rattle.std.proofs.lemmas.Result.{on_ok_weaker}
use Rattle.cedar_auth.specs.Private.ShortAnswers.{end_of_one}
use Rattle.cedar_auth.proofs.ShortTexts.{one_named}
use Rattle.cedar_auth.proofs.short_answer.append_one.Goals as goal

pub returns-else-is_err-clause-ok : goal.returns-else-is_err-clause-ok
returns-else-is_err-clause-ok c =
    on_ok_weaker c.append_three-appended.result
    (λ e. e ∙ ap (λ (t : List ℕ). c.args.out.now.items ++ (t ++ (c.args.id.now ++ end_of_one))) c.beginning.ensures ∙ ap (λ (t : List ℕ). c.args.out.now.items ++ t) (one_named c.args.decision c.args.id.now c.requires))
    c.append_three-appended.ensures.ok
