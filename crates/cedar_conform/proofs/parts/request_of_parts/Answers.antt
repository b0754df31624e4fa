use Rattle.std.proofs.lemmas.Result.{err_from_is_err_and}
use Rattle.cedar_conform.specs.Parts.{parts_of}
use Rattle.cedar_conform.proofs.PartsLemmas.{applies_here, context_fault, looked_parts, uids_fault}
use Rattle.cedar_conform.proofs.parts.request_of_parts.Goals as goal

pub returns-in_err-ty-clause-answer : goal.returns-in_err-ty-clause-answer
returns-in_err-ty-clause-answer c =
    let p = err_from_is_err_and c.from_residual-in_err-ty.result c.from_residual-in_err-ty.ensures.1 in
    rw (p.1, p.2) (λ other. uids_fault c.args.schema.now (parts_of c.args.parts.now) c.in_ok-uids.uids c.in_ok-uids.ensures _ c.in_err-ty.ensures.found)

pub returns-in_err-context-clause-answer : goal.returns-in_err-context-clause-answer
returns-in_err-context-clause-answer c =
    let p = err_from_is_err_and c.from_residual-in_err-context.result c.from_residual-in_err-context.ensures.1 in
    rw (p.1, p.2) (λ other. context_fault c.args.schema.now (parts_of c.args.parts.now) c.in_ok-uids.uids c.in_ok-uids.ensures c.in_ok-ty.ty.now c.in_ok-ty.ensures.found.0 _ (c.in_err-context.ensures other))

pub returns-clause-answer : goal.returns-clause-answer
returns-clause-answer c =
    let s = c.args.schema.now in
    let parts = parts_of c.args.parts.now in
    let u = c.in_ok-uids.uids in
    let are = c.in_ok-uids.ensures in
    let ty = c.in_ok-ty.ty.now in
    let read = c.in_ok-context.ensures in
    looked_parts s parts (record { principal = u.principal; action = u.action; resource = u.resource; context = c.in_ok-context.context }) c.listed_request.result c.listed_request.ensures (record {
      named = are.named;
      principal = are.principal;
      action = are.action;
      resource = are.resource;
      json = read.0;
      is_json = read.1;
      context_type = ty;
      applies = applies_here s parts u are ty c.in_ok-ty.ensures.found.0;
      fine = read.2;
      context = read.3;
    })
