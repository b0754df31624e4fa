use Rattle.std.proofs.Common.{◌≡◌, Bool, true, false, not, IfSome, option_map, refl, sym, ap, subst, ◌∙◌}
use Rattle.cedar_schema_types.specs.declared.truth.Truth.TheVariants.{False}
use Rattle.cedar_check.specs.Private.Condition.{asked, condition_in, first_in, IsNamed, IsReady}
use Rattle.cedar_check.specs.Private.Signatures.{form_with}
use Rattle.cedar_check.proofs.OtherAction.{shut_out}
use Rattle.cedar_check.proofs.known.known_form.Goals as goal

denied : (b : Bool) → not b ≡ true → b ≡ false
denied true e = cc
denied false e = refl

pub returns-in-Some : goal.returns-in-Some
returns-in-Some c settings s ready declared first_is =
    let env = c.args.environment.now in
    let p = c.in-Parts.parts in
    let parts_ready = subst (IsReady s) c.in-Parts.is ready in
    let named = subst (λ n. IfSome n (λ u. IsNamed s (asked p.operator p.operand.now) u.now)) c.in-Some.is parts_ready.1.1.1 in
    let differ = denied _ (sym c.ne.ensures ∙ c.if-ne.true) in
    c.shut_out.ensures
    ∙ ap (option_map (λ known. False)) (first_is ∙ ap (λ q. form_with settings s env (first_in q)) c.in-Parts.is)
    ∙ sym (shut_out settings s env (asked p.operator p.operand.now) p.rest.now c.in-Some.named.now named declared differ p.principal.now)
    ∙ ap (λ q. form_with settings s env (condition_in q)) (sym c.in-Parts.is)
