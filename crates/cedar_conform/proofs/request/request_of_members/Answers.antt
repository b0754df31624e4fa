use Rattle.std.proofs.Common.{Option, sym, subst, ◌∙◌, arith}
use Rattle.std.specs.Prelude.{MatchOption}
use Rattle.serde_json.specs.Data.{Members, no_members, object}
use Rattle.cedar_conform.specs.Private.Answers.{IsAnswer, IsNoJson}
use Rattle.cedar_conform.proofs.FieldLemmas.{three_put}
use Rattle.cedar_conform.proofs.request.request_of_members.Goals as goal

pub returns-then-is_at_end-clause-answer : goal.returns-then-is_at_end-clause-answer
returns-then-is_at_end-clause-answer c =
    let is = c.in-Some.ensures.members no_members ∙ c.is_at_end.ensures (grind arith) _ in
    subst (λ (o : Option Members). MatchOption o (IsNoJson c.plain_request.result) (λ ms. IsAnswer c.args.schema.now (object ms) c.plain_request.result)) (sym is)
    (c.plain_request.ensures.answer _ (three_put c.in-Some.values))

pub returns-clause-answer : goal.returns-clause-answer
returns-clause-answer c =
    subst (λ (o : Option Members). MatchOption o (IsNoJson c.request_of_rest-2.result) (λ ms. IsAnswer c.args.schema.now (object ms) c.request_of_rest-2.result))
    (sym (c.in-Some.ensures.members no_members)) (c.request_of_rest-2.ensures.answer _ (three_put c.in-Some.values))
