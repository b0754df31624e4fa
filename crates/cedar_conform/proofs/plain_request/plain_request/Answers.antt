use Rattle.std.proofs.Common.{◌≡◌, [], Contains, Option, inl, inr, sym, subst}
use Rattle.std.specs.Prelude.{unwrap_or}
use Rattle.serde_json.specs.Data.{Data, no_members, object}
use Rattle.cedar_value.specs.Datum.{fields_of, record_of}
use Rattle.cedar_conform_values.specs.Values.{value_read}
use Rattle.std.proofs.lemmas.Result.{err_from_is_err_and}
use Rattle.cedar_conform.specs.Private.Fields.{quoted_fields}
use Rattle.cedar_conform.proofs.FieldLemmas.{names_of, shapeless_of}
use Rattle.cedar_conform.proofs.RequestLemmas.{looked_answer}
use Rattle.cedar_conform.proofs.plain_request.plain_request.Goals as goal

pub returns-in_err-uids-clause-answer : goal.returns-in_err-uids-clause-answer
returns-in_err-uids-clause-answer c = λ ms are.
    let p = err_from_is_err_and c.from_residual.result c.from_residual.ensures.1 in
    rw (p.1, p.2) (λ other. let shape = c.in_err-uids.ensures other in inl (shape.0, shapeless_of ms (quoted_fields c.args.values.now) are shape.1))

pub returns-in_err-ty-clause-answer : goal.returns-in_err-ty-clause-answer
returns-in_err-ty-clause-answer c = λ ms are.
    let p = err_from_is_err_and c.from_residual-in_err-ty.result c.from_residual-in_err-ty.ensures.1 in
    let u = c.in_ok-uids.uids in
    rw (p.1, p.2) (λ other. inr (inl (u.principal, u.action, u.resource, names_of ms (quoted_fields c.args.values.now) are u c.in_ok-uids.ensures, c.in_err-ty.ensures.found)))

pub returns-in_err-context-clause-answer : goal.returns-in_err-context-clause-answer
returns-in_err-context-clause-answer c = λ ms are.
    let p = err_from_is_err_and c.from_residual-in_err-context.result c.from_residual-in_err-context.ensures.1 in
    let u = c.in_ok-uids.uids in
    let ty = c.in_ok-ty.ty.now in
    rw (p.1, p.2) (λ other. inr (inr (inl (record {
      principal = u.principal;
      action = u.action;
      resource = u.resource;
      names = names_of ms (quoted_fields c.args.values.now) are u c.in_ok-uids.ensures;
      context_type = ty;
      applies = c.in_ok-ty.ensures.found.0;
      broken = subst (λ (o : Option Data). Contains (value_read ty (unwrap_or o (object no_members))).faults c.in_err-context.field-0.0) (sym are.context) (c.in_err-context.ensures other);
    }))))

pub returns-clause-answer : goal.returns-clause-answer
returns-clause-answer c = λ ms are.
    let u = c.in_ok-uids.uids in
    let ty = c.in_ok-ty.ty.now in
    looked_answer c.args.schema.now (object ms) (record { principal = u.principal; action = u.action; resource = u.resource; context = c.in_ok-context.context }) c.listed_request.result c.listed_request.ensures (record {
      keys = are.known;
      names = names_of ms (quoted_fields c.args.values.now) are u c.in_ok-uids.ensures;
      context_type = ty;
      applies = c.in_ok-ty.ensures.found.0;
      fine = subst (λ (o : Option Data). (value_read ty (unwrap_or o (object no_members))).faults ≡ []) (sym are.context) c.in_ok-context.ensures.0;
      context = subst (λ (o : Option Data). record_of (fields_of c.in_ok-context.context) ≡ (value_read ty (unwrap_or o (object no_members))).value) (sym are.context) c.in_ok-context.ensures.1;
    })
