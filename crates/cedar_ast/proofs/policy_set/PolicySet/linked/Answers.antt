use Rattle.std.proofs.Common.{sym, true≢false, ◌∙◌}
use Rattle.cedar_ast.specs.Linking.{IsTemplate}
use Rattle.cedar_ast.proofs.LinkLemmas.{found-value, absent-value, linked-ok, linked-missing}
use Rattle.cedar_ast.proofs.policy_set.PolicySet.linked.Goals as goal
use Rattle.cedar_ast.proofs.policy_set.PolicySet.linked.Goals.{In-Some}

pub returns-in_default-clause-no_such_template : goal.returns-in_default-clause-no_such_template
returns-in_default-clause-no_such_template c = λ _ t is.
    absent-value (λ u. u.id) c.self.inside.templates.entries c.args.template.now t c.self.invariant.templates (sym c.in_default.ensures.value)
    (rw (← c.self.view_is) at is.stands) is.id_is

is_template : (c : In-Some) → IsTemplate c.args.self.now c.args.template.now c.in-Some.template.now
is_template c =
    let found = found-value (λ u. u.id) c.self.inside.templates.entries c.args.template.now c.in-Some.template.now c.self.invariant.templates (sym c.in-Some.ensures.value) in
    record { stands = rw (← c.self.view_is) found.0; id_is = found.1 }

pub returns-then-has_extra_slot-clause-extra : goal.returns-then-has_extra_slot-clause-extra
returns-then-has_extra_slot-clause-extra c = λ _. (c.in-Some.template.now, is_template (goal.at.returns-then-has_extra_slot-clause-extra c).In-Some, c.has_extra_slot.ensures.0 c.if-has_extra_slot.true)

pub returns-clause-ok : goal.returns-clause-ok
returns-clause-ok c =
    rw c.ok_or.ensures.value
    (linked-ok _ _ _ _ _ _ (is_template (goal.at.returns-clause-ok c).In-Some) (λ extra. true≢false (sym (c.has_extra_slot.ensures.1 extra) ∙ c.if-has_extra_slot.false)) c.in_ok-linked.ensures)

pub returns-clause-missing : goal.returns-clause-missing
returns-clause-missing c =
    rw c.ok_or.ensures.value (linked-missing _ _ _ _ _ _ (is_template (goal.at.returns-clause-missing c).In-Some) c.in_ok-linked.ensures)
