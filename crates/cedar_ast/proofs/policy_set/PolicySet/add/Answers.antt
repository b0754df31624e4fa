use Rattle.std.proofs.Common.{◌≡◌, ◌∙◌, ap}
use Rattle.std.proofs.lemmas.List.Elements.{Contains-append_right}
use Rattle.cedar_ast.specs.PolicySetTree.{id_of}
use Rattle.cedar_ast.proofs.PolicyIdLemmas.{in_neither, AreById-policy, AreById-template}
use Rattle.cedar_ast.proofs.policy_set.PolicySet.add.Goals as goal
use Rattle.cedar_ast.proofs.policy_set.PolicySet.add.Goals.{in-Ok-put, in-Ok-put-2, in-Err-put, in-Err}

pub returns-then-is_taken-2-clause-duplicate : goal.returns-then-is_taken-2-clause-duplicate
returns-then-is_taken-2-clause-duplicate c = λ _.
    let same : c.as_str-3.result.now ≡ id_of c.args.statement = c.as_str-3.ensures.value ∙ c.in-Ok.ensures.ok ∙ c.as_str.ensures ∙ c.id.ensures in
    let taken = rw (same, c.self.invariant.templates) at c.is_taken-2.ensures.taken c.if-is_taken-2.true in
    rw (← c.self.view_is) (Contains-append_right _ _ _ taken)

pub returns-after-put-clause-distinct : goal.returns-after-put-clause-distinct
returns-after-put-clause-distinct c =
    let same : c.as_str-2.result.now ≡ id_of c.args.statement = c.as_str-2.ensures.value ∙ c.in-Ok.ensures.ok ∙ c.as_str.ensures ∙ c.id.ensures in
    let same-2 : c.as_str-3.result.now ≡ id_of c.args.statement = c.as_str-3.ensures.value ∙ c.in-Ok.ensures.ok ∙ c.as_str.ensures ∙ c.id.ensures in
    let no_policy = rw (same, c.self.invariant.policies) at c.is_taken.ensures.free c.if-is_taken.false in
    let no_template = rw (same-2, c.self.invariant.templates) at c.is_taken-2.ensures.free c.if-is_taken-2.false in
    elim c.match-put.branch [
      | in-Ok-put w ↦ rw (w.result-is, ← c.self.view_is) (in_neither _ _ _ no_policy no_template)
      | in-Err w ↦ rw w.result-is tt
    ]

pub returns-after-put-2-clause-distinct : goal.returns-after-put-2-clause-distinct
returns-after-put-2-clause-distinct c =
    let same : c.as_str-2.result.now ≡ id_of c.args.statement = c.as_str-2.ensures.value ∙ c.in-Ok.ensures.ok ∙ c.as_str.ensures ∙ c.id.ensures in
    let same-2 : c.as_str-3.result.now ≡ id_of c.args.statement = c.as_str-3.ensures.value ∙ c.in-Ok.ensures.ok ∙ c.as_str.ensures ∙ c.id.ensures in
    let no_policy = rw (same, c.self.invariant.policies) at c.is_taken.ensures.free c.if-is_taken.false in
    let no_template = rw (same-2, c.self.invariant.templates) at c.is_taken-2.ensures.free c.if-is_taken-2.false in
    elim c.match-put-2.branch [
      | in-Ok-put-2 w ↦ rw (w.result-is, ← c.self.view_is) (in_neither _ _ _ no_policy no_template)
      | in-Err-put w ↦ rw w.result-is tt
    ]

pub invariant_of-self : goal.invariant_of-self
invariant_of-self c =
    let its : id_of c.args.statement ≡ c.in-Policy.policy.id = ap id_of c.in-Policy.is in
    let key = c.in-Ok.ensures.ok ∙ c.as_str.ensures ∙ c.id.ensures ∙ its in
    let no_policy = rw (c.as_str-2.ensures.value ∙ key) at c.is_taken.ensures.free c.if-is_taken.false in
    let no_template = rw (c.as_str-3.ensures.value ∙ key) at c.is_taken-2.ensures.free c.if-is_taken-2.false in
    elim c.match-put.branch [
      | in-Ok-put w ↦ rw w.in-Ok-put.ensures.ok (AreById-policy _ _ c.in-Ok.id c.in-Policy.policy c.self.invariant key no_policy no_template)
      | in-Err w ↦ rw w.in-Err.ensures.unchanged c.self.invariant
    ]

pub invariant_of-self-in-Template : goal.invariant_of-self-in-Template
invariant_of-self-in-Template c =
    let its : id_of c.args.statement ≡ c.in-Template.template.id = ap id_of c.in-Template.is in
    let key = c.in-Ok.ensures.ok ∙ c.as_str.ensures ∙ c.id.ensures ∙ its in
    let no_policy = rw (c.as_str-2.ensures.value ∙ key) at c.is_taken.ensures.free c.if-is_taken.false in
    let no_template = rw (c.as_str-3.ensures.value ∙ key) at c.is_taken-2.ensures.free c.if-is_taken-2.false in
    elim c.match-put-2.branch [
      | in-Ok-put-2 w ↦ rw w.in-Ok-put-2.ensures.ok (AreById-template _ _ c.in-Ok.id c.in-Template.template c.self.invariant key no_policy no_template)
      | in-Err-put w ↦ rw w.in-Err-put.ensures.unchanged c.self.invariant
    ]
