use Rattle.std.proofs.Common.{ℕ, List, subst}
use Rattle.cedar_auth_candidates.specs.declared.question.Question.TheVariants.{AnyAction, SomeAction}
use Rattle.cedar_auth_candidates.specs.Private.Sifting.{Holds, SiftedBy}
use Rattle.cedar_auth_candidates.proofs.positions.Positions.new.Goals as goal

pub returns : goal.returns
returns c =
    let s = c.args.schema.now in
    let ps = c.args.policies.now.policies in
    record {
      all = c.in_ok-all.ensures;
      leaving = subst (λ (xs : List ℕ). SiftedBy ps (Holds s AnyAction) xs c.in_ok-leaving.leaving.items) c.deref.ensures.value c.in_ok-leaving.ensures;
      asking = subst (λ (xs : List ℕ). SiftedBy ps (Holds s SomeAction) xs c.in_ok-asking.asking.items) c.deref-2.ensures.value c.in_ok-asking.ensures;
    }
