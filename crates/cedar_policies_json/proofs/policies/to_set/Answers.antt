use Rattle.std.proofs.Common.{◌≡◌, ◌∷◌, [], ◌++◌, List, length, sym, ap, subst, ◌∙◌, append_assoc, append-nil, length-append, arith}
use Rattle.std.proofs.lemmas.Result.{err_from_is_err_and}
use Rattle.std.specs.Vec.Iter.{into_iter_items}
use Rattle.cedar_parser.proofs.Drained.{nothing_left}
use Rattle.cedar_policies_json.specs.declared.named_statement.NamedStatement.{NamedStatement}
use Rattle.cedar_policies_json.specs.PolicyFiles.{ArePolicies}
use Rattle.cedar_policies_json.specs.Private.Entering.{RefusesSet}
use Rattle.cedar_policies_json.proofs.Entering.{none_entered, one_entered, refused_at}
use Rattle.cedar_policies_json.proofs.policies.to_set.Goals as goal

pub loop-named-preserved : goal.loop-named-preserved
loop-named-preserved c =
    let at = c.loop-named in
    let x = c.in-Some.named in
    let steps : into_iter_items at.named-iterator ≡ x ∷ into_iter_items c.next.new.self = c.in-Some.ensures.steps.0 in
    record {
      whole = append_assoc at.yielded (x ∷ []) _ ∙ rw (← steps) at.invariant.whole;
      entered = one_entered c.args.language at.yielded x at.set c.add_at.new.set at.invariant.entered c.in_ok-add_at.ensures.limits c.in_ok-add_at.ensures.distinct c.in_ok-add_at.ensures.entered;
      place = omega (arith, at.invariant.place, length-append at.yielded (x ∷ []));
      left =
          let was = at.invariant.left in
          let gone = c.in-Some.ensures.steps.1 in
          let short = ap length steps in
          omega arith;
    }

pub returns-clause-found : goal.returns-clause-found
returns-clause-found c =
    let at = c.loop-named in
    let none = c.in-None.ensures.steps in
    let empty : into_iter_items at.named-iterator ≡ [] = nothing_left _ (sym at.invariant.left ∙ none.0) in
    let all = sym (append-nil at.yielded) ∙ rw empty at at.invariant.whole ∙ c.into_iter-named-iterator.ensures.into_iter_gives.0 in
    subst (λ (ns : List NamedStatement). ArePolicies c.args.language ns at.set) all at.invariant.entered

pub returns-in_err-add_at-clause-fault : goal.returns-in_err-add_at-clause-fault
returns-in_err-add_at-clause-fault c =
    let at = c.loop-named in
    let x = c.in-Some.named in
    let steps : into_iter_items at.named-iterator ≡ x ∷ into_iter_items c.next.new.self = c.in-Some.ensures.steps.0 in
    let whole = rw steps at at.invariant.whole in
    let h = c.in_err-add_at.ensures.refused in
    let p = err_from_is_err_and c.from_residual.result c.from_residual.ensures.1 in
    rw (p.1, p.2, h.1) (refused_at c.args.language at.yielded (into_iter_items c.next.new.self) c.args.statements.items x at.set at.position (whole ∙ c.into_iter-named-iterator.ensures.into_iter_gives.0) at.invariant.place at.invariant.entered h.0 h.2)
