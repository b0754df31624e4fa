use Rattle.std.proofs.Common.{ℕ, List, Contains, sym, subst, eqb}
use Rattle.std.specs.List.Sorted.{IsStrictlyIncreasing}
use Rattle.std.proofs.lemmas.List.Filters.{dedup_is}
use Rattle.std.proofs.lemmas.List.Kept.{Contains-dedup_nat, Contains-from_dedup}
use Rattle.std.proofs.lemmas.List.Sorted.{Contains-permutation, IsPermutation-sym}
use Rattle.std.proofs.lemmas.Map.Keys.{IsStrictlyIncreasing-dedup}
use Rattle.cedar_auth_candidates.proofs.selection.Selection.sort.Goals as goal

pub returns-clause-kept : goal.returns-clause-kept
returns-clause-kept c = λ k m.
    let sorted = c.sort_unstable.new.self.items in
    subst (λ (ks : List ℕ). Contains ks k) (sym (dedup_is eqb sorted c.dedup.new.self.items c.dedup.ensures.filtered))
    (Contains-dedup_nat sorted k (Contains-permutation c.self.inside.positions.items sorted k c.sort_unstable.ensures.permutation
    (subst (λ (ks : List ℕ). Contains ks k) (sym c.self.view_is) m)))

pub returns-clause-among : goal.returns-clause-among
returns-clause-among c = λ k m.
    let before = c.self.inside.positions.items in
    let sorted = c.sort_unstable.new.self.items in
    subst (λ (ks : List ℕ). Contains ks k) c.self.view_is
    (Contains-permutation sorted before k (IsPermutation-sym before sorted c.sort_unstable.ensures.permutation)
    (Contains-from_dedup eqb sorted k
    (subst (λ (ks : List ℕ). Contains ks k) (dedup_is eqb sorted c.dedup.new.self.items c.dedup.ensures.filtered) m)))

pub returns-clause-ascend : goal.returns-clause-ascend
returns-clause-ascend c =
    let sorted = c.sort_unstable.new.self.items in
    subst (λ (ks : List ℕ). IsStrictlyIncreasing ks) (sym (dedup_is eqb sorted c.dedup.new.self.items c.dedup.ensures.filtered))
    (IsStrictlyIncreasing-dedup sorted c.sort_unstable.ensures.sorted)
