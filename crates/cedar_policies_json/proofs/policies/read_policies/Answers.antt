use Rattle.std.proofs.Common.{◌≡◌, true, sym, ◌∙◌, rules}
use Rattle.std.proofs.lemmas.Result.{err_from_is_err_and}
use Rattle.serde_json.specs.View.{view}
use Rattle.cedar_policies_json.specs.Repeats.{has_each_key_once}
use Rattle.cedar_policies_json.proofs.Files.{writes, no_text, not_json, refused_only}
use Rattle.cedar_policies_json.proofs.policies.read_policies.Goals as goal

pub returns-in_default-clause-only : goal.returns-in_default-clause-only
returns-in_default-clause-only c set links h = absurd (not_json c.args.language c.args.bytes.now (no_text c.args.bytes.now c.in_default.ensures.cases.0) set links h)

pub returns-in_default-clause-fault : goal.returns-in_default-clause-fault
returns-in_default-clause-fault c = no_text c.args.bytes.now c.in_default.ensures.cases.0

pub returns-in_err-policies-clause-only : goal.returns-in_err-policies-clause-only
returns-in_err-policies-clause-only c =
    let bytes = c.args.bytes.now in
    let d = view c.in-Some.json in
    let kept : c.in_ok-has_each_key_once.field-0 ≡ true = search rules in
    let once : has_each_key_once bytes d ≡ true = rw (← c.in-Ok.ensures.cases.0) (sym c.in_ok-has_each_key_once.ensures ∙ kept) in
    let w = writes bytes d c.in-Some-2.file.statements.items c.in-Some-2.file.links.items (sym (rw c.in-Some.is at c.in_ok-json.ensures)) once (sym (rw c.in-Some-2.is at c.in_ok-file.ensures)) in
    let p = err_from_is_err_and c.from_residual-in_err-policies.result c.from_residual-in_err-policies.ensures.1 in
    rw (p.1, p.2) (refused_only c.args.language bytes c.in-Some-2.file.statements.items c.in-Some-2.file.links.items w c.in_err-policies.field-0.0 c.in_err-policies.ensures.fault)
