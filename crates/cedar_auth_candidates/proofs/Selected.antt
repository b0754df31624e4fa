-- What is selected by an index.
use Rattle.std.proofs.Common.{◌≡◌, ℕ, ◌⊎◌, true, List, Contains, Option, Some, None, refl, sym, subst}
use Rattle.cedar_value.specs.declared.uid.Uid.{Uid}
use Rattle.cedar_value.specs.World.{World, Below}
use Rattle.cedar_value.specs.declared.request.Request.{Request}
use Rattle.cedar_ast.specs.PolicyTree.{PolicyTree}
use Rattle.cedar_auth_candidates.specs.Index.{IsKept, IsListingBy, ListingTree}
use Rattle.cedar_auth_candidates.specs.Private.Kept.{Holds, list_at, tree_of}
use Rattle.cedar_auth_candidates.specs.Reached.{IsReached}
use Rattle.cedar_ast.specs.Scope.{entity_in}
use Rattle.cedar_auth_candidates.specs.declared.tables.Tables.{Tables}
use Rattle.cedar_auth_candidates.proofs.Entering.{list_is}

-- a policy that is reached is gathered from where it is kept
pub selected : (tables : Tables) (listing : ListingTree) (q : Request) (w : World) (p : PolicyTree) (k : ℕ) (second third fourth last : List ℕ)
    → (listing.by_principal ≡ true → (u : Uid) → (q.principal ≡ u) ⊎ Below w q.principal u → Holds (list_at tables.principals u) second)
    → Holds second third → (listing.by_resource ≡ true → (u : Uid) → (q.resource ≡ u) ⊎ Below w q.resource u → Holds (list_at tables.resources u) third)
    → ((j : ℕ) → Contains third j → Contains listing.positions j → Contains fourth j) → Holds listing.unnamed fourth → Holds fourth last
    → IsListingBy (tree_of tables) listing → Contains listing.positions k → IsReached q w p → IsKept (tree_of tables) (entity_in p.scope.principal) (entity_in p.scope.resource) k → Contains last k
selected tables listing q w p k second third fourth last by_principal kept by_resource listed unnamed sorted by among reached is_kept =
    at (entity_in p.scope.principal) (entity_in p.scope.resource) refl refl is_kept
  where
    at : (a b : Option Uid) → entity_in p.scope.principal ≡ a → entity_in p.scope.resource ≡ b → IsKept (tree_of tables) a b k → Contains last k
    at (Some u) b e d m = sorted k (listed k (kept k (by_principal (by.by_principal k u among m) u (reached.0 u e) k (subst (λ (ks : List ℕ). Contains ks k) (sym (list_is tables.principals u)) m))) among)
    at None (Some u) e d m = sorted k (listed k (by_resource (by.by_resource k u among m) u (reached.1 u d) k (subst (λ (ks : List ℕ). Contains ks k) (sym (list_is tables.resources u)) m)) among)
    at None None e d m = sorted k (unnamed k (by.unnamed k among m))
