use Rattle.std.proofs.Common.{subst, ap, ◌∙◌, List, ℕ}
use Rattle.std.proofs.lemmas.Result.{err_from_is_err_and}
use Rattle.std.specs.Prelude.{OnOk, Contains}
use Rattle.cedar_ast.specs.PolicySetTree.{id_of, ids_in}
use Rattle.cedar_policies_json.proofs.Entering.{id_of_statement, judged, not_entered}
use Rattle.cedar_policies_json.proofs.policies.add_statement.Goals as goal

pub returns-clause-distinct : goal.returns-clause-distinct
returns-clause-distinct c =
    subst (λ (id : List ℕ). OnOk c.add_entry.result (Contains (ids_in c.args.set.now) id → ⊥)) (ap id_of c.in_ok-entry.ensures ∙ id_of_statement c.args.named.id c.args.named.statement) c.add_entry.ensures.distinct

pub returns-clause-refused : goal.returns-clause-refused
returns-clause-refused c =
    not_entered c.args.language c.args.set.now c.args.named c.in_ok-entry.entry c.add_entry.result (ap id_of c.in_ok-entry.ensures ∙ id_of_statement c.args.named.id c.args.named.statement) c.add_entry.ensures.refused

pub returns-in_err-judge-clause-refused : goal.returns-in_err-judge-clause-refused
returns-in_err-judge-clause-refused c =
    let p = err_from_is_err_and c.from_residual.result c.from_residual.ensures.1 in
    rw (p.1, p.2) (judged c.args.language c.args.set.now c.args.named c.in_err-judge.field-0.0 c.in_err-judge.ensures.broken)

pub entry_of-requires : goal.entry_of-requires
entry_of-requires c = c.cedar4_is_widest.ensures c.args.language c.args.named.statement c.in_ok-judge.ensures.kept
