use Rattle.std.proofs.Common.{◌≡◌, [], Option, inl, inr, refl, sym, ap, subst, ◌∙◌}
use Rattle.std.specs.Prelude.{unwrap_or}
use Rattle.std.proofs.lemmas.Result.{err_from_is_err_and}
use Rattle.cedar_conform.proofs.FieldLemmas.{names_of, shapeless_of}
use Rattle.cedar_conform.proofs.RequestLemmas.{looked_answer}
use Rattle.serde_json.specs.Data.{Data, no_members, object}
use Rattle.cedar_value.specs.Datum.{fields_of, record_of}
use Rattle.cedar_conform_values.specs.Values.{value_read}
use Rattle.cedar_conform.specs.Private.Fields.{context_in, data_in}
use Rattle.cedar_conform.specs.Requests.{context_of}
use Rattle.cedar_conform.proofs.request.request_of.Goals as goal

pub returns-then-not-fields-clause-answer : goal.returns-then-not-fields-clause-answer
returns-then-not-fields-clause-answer c = λ ms are other. inl (refl, inl (are.known ∙ c.if-not-fields.true))

pub returns-in_err-uids-clause-answer : goal.returns-in_err-uids-clause-answer
returns-in_err-uids-clause-answer c = λ ms are.
    let p = err_from_is_err_and c.from_residual.result c.from_residual.ensures.1 in
    rw (p.1, p.2) (λ other. let shape = c.in_err-uids.ensures.uids other in inl (shape.0, shapeless_of ms c.args.fields.now are shape.1))

pub returns-in_err-ty-clause-answer : goal.returns-in_err-ty-clause-answer
returns-in_err-ty-clause-answer c = λ ms are.
    let p = err_from_is_err_and c.from_residual-in_err-ty.result c.from_residual-in_err-ty.ensures.1 in
    let u = c.in_ok-uids.uids in
    rw (p.1, p.2) (λ other. inr (inl (u.principal, u.action, u.resource, names_of ms c.args.fields.now are u c.in_ok-uids.ensures.uids, c.in_err-ty.ensures.found)))

pub returns-clause-answer : goal.returns-clause-answer
returns-clause-answer c = λ ms are.
    let u = c.in_ok-uids.uids in
    let ty = c.in_ok-ty.ty.now in
    let same : context_in c.take.result ≡ context_of (object ms) =
    ap (λ (o : Option Data). unwrap_or o (object no_members)) (ap data_in (c.take.ensures.value ∙ c.in_ok-uids.ensures.context) ∙ sym are.context) in
    looked_answer c.args.schema.now (object ms) (record { principal = u.principal; action = u.action; resource = u.resource; context = c.in_ok-context.context }) c.listed_request.result c.listed_request.ensures (record {
      keys = are.known ∙ c.if-not-fields.false;
      names = names_of ms c.args.fields.now are u c.in_ok-uids.ensures.uids;
      context_type = ty;
      applies = c.in_ok-ty.ensures.found.0;
      fine = subst (λ (x : Data). (value_read ty x).faults ≡ []) same c.in_ok-context.ensures.0;
      context = subst (λ (x : Data). record_of (fields_of c.in_ok-context.context) ≡ (value_read ty x).value) same c.in_ok-context.ensures.1;
    })
