-- Actions that no scope asks for leave the policies whose scopes leave the action open.
use Rattle.std.proofs.Common.{◌≡◌, ℕ, List, [], length, Contains, Option, Some, None, IsTrue, sym, ap, subst}
use Rattle.std.proofs.lemmas.Cmp.{nat_list_cmp_total, tied_itself}
use Rattle.std.proofs.lemmas.Map.Views.{tells_apart}
use Rattle.std.specs.BTreeMap.{is_at}
use Rattle.std.specs.List.{list_any, slice_get, range_with_len}
use Rattle.std.specs.Ordering.{is_eq}
use Rattle.cedar_value.specs.Order.{text_cmp}
use Rattle.cedar_value.specs.Private.Same.{text_same}
use Rattle.cedar_value.specs.declared.uid.Uid.{Uid}
use Rattle.cedar_ast.specs.declared.scope.ActionScope.{ActionScope}
use Rattle.cedar_ast.specs.declared.scope.ActionScope.TheVariants as action
use Rattle.cedar_ast.specs.PolicyTree.{PolicyTree}
use Rattle.cedar_schema_spec.specs.SchemaTree.{SchemaTree, ActionTree}
use Rattle.cedar_check_spec.specs.Candidates.{Meets}
use Rattle.cedar_auth_candidates.specs.Index.{IndexTree}
use Rattle.cedar_auth_candidates.specs.declared.positions.Positions.{Positions}
use Rattle.cedar_auth_candidates.specs.Private.RowMaking.{AppliesWithin}
use Rattle.cedar_auth_candidates.specs.Private.Sifting.{ArePositions, ByPrincipal, LeavesOpen, OfPolicy, RowCells, SiftedBy}
use Rattle.base_reach.proofs.Listed.{any_at, any_found, nowhere}
use Rattle.cedar_auth_candidates.proofs.Sifts.{in_sifted, of_alike, sifted_within}

-- what leaves the action open is met by each
open_meets : (s : SchemaTree) (u : Uid) (a : ActionScope Uid) → LeavesOpen a → Meets s u a
open_meets s u action.Any h = tt
open_meets s u (action.Equal v) h = absurd h
open_meets s u (action.In v) h = absurd h
open_meets s u (action.InSet vs) h = absurd h

-- what does not ask for some action leaves it open
open_else : (a : ActionScope Uid) → ((¬ LeavesOpen a) → ⊥) → LeavesOpen a
open_else action.Any asks = tt
open_else (action.Equal v) asks = absurd (asks (λ h. h))
open_else (action.In v) asks = absurd (asks (λ h. h))
open_else (action.InSet vs) asks = absurd (asks (λ h. h))

settled : (P : PolicyTree → Type 0) (o : Option PolicyTree) → (OfPolicy (λ p. ¬ LeavesOpen p.scope.action) o → ⊥) → OfPolicy P o → OfPolicy (λ p. LeavesOpen p.scope.action) o
settled P None asks m = m
settled P (Some p) asks m = open_else p.scope.action asks

-- an action that no asking scope meets leaves those that leave it open
pub open_sifted : (s : SchemaTree) (ps : List PolicyTree) (u : Uid) (positions : Positions) (asked : List ℕ) → ArePositions s ps positions
    → SiftedBy ps (λ p. Meets s u p.scope.action) positions.asking.items asked → asked ≡ []
    → SiftedBy ps (λ p. Meets s u p.scope.action) (range_with_len 0 (length ps)) positions.leaving.items
open_sifted s ps u positions asked are sifted none =
    subst (λ (xs : List ℕ). SiftedBy ps (λ p. Meets s u p.scope.action) xs positions.leaving.items) are.all
    (sifted_within positions.all.items positions.leaving.items
    (λ k m h. of_alike (λ p. LeavesOpen p.scope.action) (λ p. Meets s u p.scope.action) (λ p. open_meets s u p.scope.action) (slice_get ps k) h)
    (λ k m h. settled (λ p. Meets s u p.scope.action) (slice_get ps k)
    (λ asks. nowhere k (subst (λ (ys : List ℕ). Contains ys k) none
    (in_sifted positions.asking.items asked sifted k (in_sifted positions.all.items positions.asking.items are.asking k m asks) h))) h)
    are.leaving)

-- ---- rows of other actions

-- what is kept for an action is kept for one that applies to no other types
pub within_row : (s : SchemaTree) (ps : List PolicyTree) (index : IndexTree) (ks : List ℕ) (a b : ActionTree) (row : RowCells) → AppliesWithin a b → ByPrincipal s ps index ks b row → ByPrincipal s ps index ks a row
within_row s ps index ks a b row within by n m =
    let (cells, at, kept) = by n (within.principals n m) in
    let (js, sifted, resources) = kept in
    (cells, at, (js, sifted, λ r k. resources r (within.resources r k)))

-- what is in a set is in one that has all of it
pub within_set : (xs ys : List (List ℕ)) → ((q : List ℕ) → IsTrue (list_any (is_at (text_cmp q)) xs) → IsTrue (list_any (is_at (text_cmp q)) ys)) → (n : List ℕ) → Contains xs n → Contains ys n
within_set xs ys sub n m =
    let f = any_found (is_at (text_cmp n)) ys (sub n (any_at (is_at (text_cmp n)) xs n m (ap is_eq (tied_itself nat_list_cmp_total n)))) in
    subst (λ (y : List ℕ). Contains ys y) (sym (tells_apart {R = text_cmp} text_same n f.0 f.2)) f.1
