use Rattle.std.proofs.lemmas.Result.{err_from_is_err_and}
use Rattle.cedar_schema_json.specs.Entries.{space_faults, namespace_faults}
use Rattle.cedar_schema_json.proofs.FormLemmas.{told_first, told_then}
use Rattle.cedar_schema_json.proofs.json.entry.check_space.Goals as goal

pub returns-in_err-check_part : goal.returns-in_err-check_part
unfolding space_faults
returns-in_err-check_part c =
    let p = err_from_is_err_and c.from_residual-in_err-check_part.result c.from_residual-in_err-check_part.ensures.1 in
    rw (p.1, p.2) (told_then (namespace_faults c.args.namespace.now) _ _ (told_first _ _ _ c.in_err-check_part.ensures))

pub returns-in_err-check_section : goal.returns-in_err-check_section
unfolding space_faults
returns-in_err-check_section c =
    let p = err_from_is_err_and c.from_residual-in_err-check_section.result c.from_residual-in_err-check_section.ensures.1 in
    rw (p.1, p.2) (told_then (namespace_faults c.args.namespace.now) _ _ (told_then _ _ _ (told_first _ _ _ c.in_err-check_section.ensures)))
