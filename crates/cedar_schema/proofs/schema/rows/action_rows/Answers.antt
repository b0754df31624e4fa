use Rattle.std.proofs.Common.{◌≡◌, true, false, ap, sym, ◌∙◌}
use Rattle.std.specs.Map.{keys_of}
use Rattle.base_reach.specs.Closure.{LeadsTo}
use Rattle.cedar_value.specs.declared.uid.Uid.{Uid}
use Rattle.cedar_schema_spec.specs.Private.Linked.{actions_listed}
use Rattle.cedar_schema_spec.specs.SchemaTree.{parents_of_action}
use Rattle.cedar_schema.proofs.Numbered.{acyclic, done_more, done_all}
use Rattle.cedar_schema.proofs.schema.rows.action_rows.Goals as goal

pub loop-uid-preserved : goal.loop-uid-preserved
loop-uid-preserved c =
    let up = parents_of_action c.args.actions.now.entries in
    let P : Uid → Type 0 = λ u. LeadsTo up u u → ⊥ in
    let u = c.in-Some.uid.now in
    let none : LeadsTo up u u → ⊥ = λ a. (let no : true ≡ false = sym ((c.in_ok-above.ensures u u).1 a) ∙ sym c.descends.ensures ∙ c.if-descends.false in cc) in
    done_more P P _ (keys_of c.next.new.self) (keys_of c.args.actions.now.entries) u (ap keys_of c.in-Some.ensures.steps) (λ v h. h) none c.loop-uid.invariant

pub returns-clause-acyclic : goal.returns-clause-acyclic
returns-clause-acyclic c =
    let actions = c.args.actions.now.entries in
    let up = parents_of_action actions in
    let P : Uid → Type 0 = λ u. LeadsTo up u u → ⊥ in
    acyclic up (keys_of actions) (actions_listed actions) (done_all P (keys_of _) (keys_of actions) (ap keys_of c.in-None.ensures.steps.0) c.loop-uid.invariant)
