use Rattle.std.proofs.Common.{◌≡◌, ℕ, ◌==◌, Bool, true, List, [], ◌∷◌, length, arith, refl, subst, sym, ◌∙◌}
use Rattle.std.proofs.lemmas.Bool.Decides.{nat_tests}
use Rattle.std.specs.Global.{Vec}
use Rattle.std.specs.Vec.{vec_len}
use Rattle.cedar_check_spec.specs.Candidates.{Meets}
use Rattle.cedar_auth_candidates.specs.Private.RowMaking.{AreRight}
use Rattle.cedar_auth_candidates.specs.Private.Sifting.{ByPrincipal, RowCells, SiftedBy}
use Rattle.cedar_auth_candidates.proofs.OpenActions.{open_sifted}
use Rattle.cedar_auth_candidates.proofs.row_maker.RowMaker.row.Goals as goal

empty : (xs : List ℕ) → length xs ≡ 0 → xs ≡ []
empty [] e = refl
empty (x ∷ xs) e = absurd (omega (arith, e))

zero_from : (n : ℕ) → (n == 0) ≡ true → n ≡ 0
zero_from n e = grind (arith, nat_tests)

none_in : (v : Vec ℕ) (b : Bool) → b ≡ true → b ≡ (vec_len v == 0) → v.items ≡ []
none_in v b holds is =
    let zero : vec_len v ≡ 0 = zero_from (vec_len v) (sym is ∙ holds) in
    empty v.items (omega (arith, zero, v.ok.0))

pub open_row-requires : goal.open_row-requires
open_row-requires c =
    subst (λ (ks : List ℕ). AreRight c.args.schema.now c.args.policies.now.policies c.args.self.now.cells ks c.args.self.now.made) (sym c.deref-then-is_empty.ensures.value) c.requires.right

pub returns-then-is_empty-clause-kept : goal.returns-then-is_empty-clause-kept
returns-then-is_empty-clause-kept c =
    subst (λ (ks : List ℕ). AreRight c.args.schema.now c.args.policies.now.policies c.args.self.now.cells ks c.open_row.new.self.made) c.deref-then-is_empty.ensures.value c.in_ok-row.ensures.kept

pub returns-then-is_empty-clause-made : goal.returns-then-is_empty-clause-made
returns-then-is_empty-clause-made c =
    let s = c.args.schema.now in
    let ps = c.args.policies.now.policies in
    let u = c.args.uid.now in
    let asking = c.in_ok-asking.asking in (
      c.args.positions.now.leaving.items,
      open_sifted s ps u c.args.positions.now asking.items c.requires.positions
          (subst (λ (xs : List ℕ). SiftedBy ps (λ p. Meets s u p.scope.action) xs asking.items) c.deref.ensures.value c.in_ok-asking.ensures)
          (none_in asking c.is_empty.result c.if-is_empty.true c.is_empty.ensures),
      subst (λ (ks : List ℕ). ByPrincipal s ps c.args.self.now.cells ks c.args.action.now c.in_ok-row.row.cells.value) c.deref-then-is_empty.ensures.value c.in_ok-row.ensures.made,
    )

pub returns-clause-made : goal.returns-clause-made
returns-clause-made c =
    let s = c.args.schema.now in
    let ps = c.args.policies.now.policies in
    let u = c.args.uid.now in
    let index = c.args.self.now.cells in
    let left = c.in_ok-left.left.items in (
      left,
      subst (λ (xs : List ℕ). SiftedBy ps (λ p. Meets s u p.scope.action) xs left) (c.deref-2.ensures.value ∙ c.requires.positions.all) c.in_ok-left.ensures,
      subst (λ (m : RowCells). ByPrincipal s ps index left c.args.action.now m) (sym c.in_ok-row-2.ensures)
          (subst (λ (ks : List ℕ). ByPrincipal s ps index ks c.args.action.now c.in_ok-cells.cells) c.deref-3.ensures.value c.in_ok-cells.ensures.made),
    )
