use Rattle.std.proofs.Common.{Option, Ok, Err, None, inl, refl, sym, subst, ◌∙◌, arith}
use Rattle.std.specs.Prelude.{MatchOption}
use Rattle.std.proofs.lemmas.Result.{err_from_is_err_and}
use Rattle.serde_json.specs.Data.{Members, no_members, object}
use Rattle.base_json.specs.Members.{members_to_come}
use Rattle.cedar_conform.specs.Private.WithEntities.{IsAnswerWith, IsNoJsonWith}
use Rattle.cedar_conform.proofs.FieldLemmas.{three_put}
use Rattle.cedar_conform.proofs.WithoutKey.{no_fields_with, three_put_with}
use Rattle.cedar_conform.proofs.request_with_entities.request_of_members.Goals as goal

pub returns-in_default : goal.returns-in_default
returns-in_default c =
    subst (λ ts. MatchOption (members_to_come no_members ts) (IsNoJsonWith c.request_of_rest.result) (λ ms. IsAnswerWith c.args.schema.now c.args.store.now (object ms) c.request_of_rest.result)) (c.in_default.ensures.none refl) (c.request_of_rest.ensures no_members no_fields_with)

pub returns-in_err-request : goal.returns-in_err-request
returns-in_err-request c =
    let is = c.in-Some.ensures.members no_members ∙ c.is_at_end.ensures (grind arith) _ in
    let p = err_from_is_err_and c.from_residual.result c.from_residual.ensures.1 in
    rw (p.1, p.2)
    (subst (λ (o : Option Members). MatchOption o (IsNoJsonWith (Err c.in_err-request.field-0.0)) (λ ms. IsAnswerWith c.args.schema.now c.args.store.now (object ms) (Err c.in_err-request.field-0.0))) (sym is)
    (λ other. inl (c.in_err-request.ensures.answer _ (three_put c.in-Some.values) other)))

pub returns-then-is_at_end : goal.returns-then-is_at_end
returns-then-is_at_end c =
    let is = c.in-Some.ensures.members no_members ∙ c.is_at_end.ensures (grind arith) _ in
    subst (λ (o : Option Members). MatchOption o (IsNoJsonWith (Ok (c.in_ok-request.request, None))) (λ ms. IsAnswerWith c.args.schema.now c.args.store.now (object ms) (Ok (c.in_ok-request.request, None)))) (sym is)
    (c.in_ok-request.ensures.answer _ (three_put c.in-Some.values), refl)

pub returns : goal.returns
returns c =
    subst (λ (o : Option Members). MatchOption o (IsNoJsonWith c.request_of_rest-2.result) (λ ms. IsAnswerWith c.args.schema.now c.args.store.now (object ms) c.request_of_rest-2.result))
    (sym (c.in-Some.ensures.members no_members)) (c.request_of_rest-2.ensures _ (three_put_with c.in-Some.values))
