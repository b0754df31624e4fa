use Rattle.std.proofs.Common.{◌≡◌, false, [], sym, subst, take, take_all, ◌∙◌, refl, arith}
use Rattle.std.specs.BTreeSet.{contains}
use Rattle.std.proofs.lemmas.Bool.{not-true, not-false}
use Rattle.cedar_ast_expressions.proofs.KeyLemmas.{by_bytes, texts, IsSetOf, IsSetOf-next, first_repeated-found, repeated-not_distinct}
use Rattle.cedar_ast_expressions.proofs.keys.first_repeated.Goals as goal

pub loop-place-init : goal.loop-place-init
loop-place-init c = record {
  distinct = λ i j d less within. omega arith;
  has = λ q. let e : contains by_bytes c.new-seen.result q ≡ false = rw c.new-seen.ensures.empty refl in cc;
}

pub returns-then-not-branch-clause-first : goal.returns-then-not-branch-clause-first
returns-then-not-branch-clause-first c =
    first_repeated-found c.args.keys.now c.loop-place.place (record { ref_ptr = (0, 0); now = [] }) c.loop-place.seen c.loop-place-test.true c.loop-place.invariant
    (not-false _ (sym c.in_ok-insert.ensures.added ∙ c.if-not-branch.true))

pub returns-then-not-branch-clause-distinct : goal.returns-then-not-branch-clause-distinct
returns-then-not-branch-clause-distinct c =
    repeated-not_distinct (texts c.args.keys.now) c.loop-place.place (returns-then-not-branch-clause-first c)

pub loop-place-preserved : goal.loop-place-preserved
loop-place-preserved c =
    IsSetOf-next c.args.keys.now c.loop-place.place (record { ref_ptr = (0, 0); now = [] }) c.loop-place.seen c.insert.new.self c.loop-place-test.true c.loop-place.invariant
    (not-true _ (sym c.in_ok-insert.ensures.added ∙ c.if-not-branch.false)) c.in_ok-insert.ensures.updates

pub returns-clause-distinct : goal.returns-clause-distinct
returns-clause-distinct c =
    let all : take c.loop-place.place c.args.keys.now ≡ c.args.keys.now = take_all _ _ c.loop-place-test.false in
    (subst (λ bs. IsSetOf bs c.loop-place.seen) all c.loop-place.invariant).distinct
