use Rattle.std.proofs.Common.{◌≡◌, ◌++◌, ◌&&◌, ◌∷◌, [], Bool, List, cond, length, map, arith, ap, subst, sym, ◌∙◌}
use Rattle.std.specs.Prelude.{Contains, IfSome, is_some, slice_get}
use Rattle.std.proofs.lemmas.List.Elements.{Contains-get_or}
use Rattle.cedar_schema_spec.specs.SchemaTree.{environments_of}
use Rattle.cedar_check_spec.specs.Private.Checking.{form_in_with}
use Rattle.cedar_check_spec.specs.Private.Reporting.{is_known_false}
use Rattle.cedar_check_spec.specs.Reports.{fault_at}
use Rattle.cedar_check_law.proofs.Candidates.{environment_action}
use Rattle.cedar_check_law.proofs.Descents.{is_action-Decides}
use Rattle.cedar_check.specs.declared.form.Form.{Form}
use Rattle.cedar_check.specs.FaultView.{fault_view}
use Rattle.cedar_check.specs.Private.Condition.{first_in}
use Rattle.cedar_check.specs.Private.Signatures.{AreNumbered, form_with}
use Rattle.cedar_check.specs.Private.View.{form_view}
use Rattle.cedar_check.proofs.Environments.{known_false, faults_step, impossible_step, not_known, still_known}
use Rattle.cedar_check.proofs.Numbers.{known_at, numbered_at, numbered_length}
use Rattle.cedar_check.proofs.fault.check_everywhere.Goals.{then-not-branch, else-not-branch}
use Rattle.cedar_check.proofs.fault.check_everywhere.Goals as goal

pub index-number-requires : goal.index-number-requires
index-number-requires c =
    let signatures = c.args.signatures.now in
    let same = numbered_length signatures.examples.items signatures.numbers.items (environments_of c.args.schema.now.actions) c.requires.signatures in
    omega (arith, same, ap length c.environments-environments.ensures, c.loop-place-test.true)

pub form_at-requires-clause-known : goal.form_at-requires-clause-known
form_at-requires-clause-known c =
    let settings = c.args.settings in
    let s = c.args.schema.now in
    let e = first_in c.args.condition in
    let examples = c.args.signatures.now.examples.items in
    let numbers = c.args.signatures.now.numbers.items in
    let envs = c.environments-environments.result.now in
    let i = c.loop-place.place in
    let env = c.index-environments-place.result in
    let number = c.index-number.result.now in
    let numbered = subst (λ l. AreNumbered examples numbers l) (sym c.environments-environments.ensures) c.requires.signatures in
    subst (λ (l : List Form). IfSome number (λ n. IfSome (slice_get l n) (λ f. form_view f ≡ form_with settings s env e))) (sym c.deref.ensures.value)
    (known_at examples settings s e c.in_ok-known.known.items number env c.in_ok-known.ensures
    (numbered_at examples numbers envs i number env c.loop-place-test.true c.index-number.ensures c.index-environments-place.is numbered))

pub form_at-requires-clause-declared : goal.form_at-requires-clause-declared
form_at-requires-clause-declared c =
    let s = c.args.schema.now in
    let envs = c.environments-environments.result.now in
    let env = c.index-environments-place.result in
    let listed : Contains envs env = subst (λ e. Contains envs e) (sym c.index-environments-place.is) (Contains-get_or envs c.loop-place.place env c.loop-place-test.true) in
    (is_action-Decides s env.action).1 (environment_action s.actions env (subst (λ l. Contains l env) c.environments-environments.ensures listed))

pub loop-place-preserved : goal.loop-place-preserved
loop-place-preserved c =
    let settings = c.args.settings in
    let s = c.args.schema.now in
    let p = c.args.policy.now in
    let envs = c.environments-environments.result.now in
    let i = c.loop-place.place in
    let env = c.index-environments-place.result in
    let lt = c.loop-place-test.true in
    let old = map fault_view c.loop-place.faults.items in
    let form : form_view c.in_ok-form.form ≡ form_in_with settings s env p = c.in_ok-form.ensures ∙ ap (form_with settings s env) c.requires.condition in
    let known = c.in_ok-add_fault.ensures.known ∙ ap is_known_false form in
    let step = λ (now : Bool) (same : now ≡ (c.loop-place.impossible && known_false settings s p env)). impossible_step settings s p envs i env c.loop-place.impossible now lt c.index-environments-place.is same ∙ c.loop-place.invariant.impossible in
    record {
      faults =
          faults_step settings s p envs i env old (map fault_view c.add_fault.new.faults.items) lt c.index-environments-place.is
          (c.in_ok-add_fault.ensures.faults ∙ ap (λ o. old ++ cond (is_some o) [] (fault_at p env ∷ [])) form)
          ∙ c.loop-place.invariant.faults;
      impossible =
          elim c.if-not-branch.branch [
            | then-not-branch w ↦ step c.if-not-branch.impossible (w.impossible-is ∙ not_known c.loop-place.impossible (known_false settings s p env) c.in_ok-add_fault.field-0 w.if-not-branch.true known)
            | else-not-branch w ↦ step c.if-not-branch.impossible (w.impossible-is ∙ still_known c.loop-place.impossible (known_false settings s p env) c.in_ok-add_fault.field-0 w.if-not-branch.false known)
          ];
    }
