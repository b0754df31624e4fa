-- How positions are sifted, question by question.
use Rattle.std.specs.Prelude.{◌≡◌, ℕ, List, [], ◌∷◌, Contains, IsSome, Option, Some, None, map, option_and_then, length}
use Rattle.std.specs.List.{slice_get, range_with_len}
use Rattle.std.specs.BTreeMap.{BTreeMap, get}
use Rattle.std.specs.Ordering.{nat_cmp}
use Rattle.cedar_value.specs.Order.{text_cmp, uid_cmp}
use Rattle.cedar_value.specs.declared.uid.Uid.{Uid}
use Rattle.cedar_ast.specs.declared.scope.ActionScope.{ActionScope}
use Rattle.cedar_ast.specs.declared.scope.ActionScope.TheVariants as action
use Rattle.cedar_ast.specs.PolicyTree.{PolicyTree}
use Rattle.cedar_schema_spec.specs.declared.environment.Environment.{Environment}
use Rattle.cedar_schema_spec.specs.SchemaTree.{SchemaTree, ActionTree, action_at}
use Rattle.cedar_check_spec.specs.Candidates.{MayMeet, Meets}
use Rattle.cedar_auth_candidates.specs.Candidates.{CandidatesTree}
use Rattle.cedar_auth_candidates.specs.Index.{IndexTree, IsListingBy, ListingTree}
use Rattle.cedar_auth_candidates.specs.declared.positions.Positions.{Positions}
use Rattle.cedar_auth_candidates.specs.declared.row.Row.{Row}
use Rattle.cedar_auth_candidates.specs.declared.question.Question.{Question}
use Rattle.cedar_auth_candidates.specs.declared.question.Question.TheVariants.{AnyAction, SomeAction, Action, Principal, Resource}

-- the scope leaves the action open
abbrev pub LeavesOpen : ActionScope Uid → Type 0
LeavesOpen action.Any = Unit {0}
LeavesOpen (action.Equal u) = ⊥
LeavesOpen (action.In u) = ⊥
LeavesOpen (action.InSet us) = ⊥

-- the scope of the policy answers the question with yes
abbrev pub Holds : SchemaTree → Question → PolicyTree → Type 0
Holds s AnyAction p = LeavesOpen p.scope.action
Holds s SomeAction p = ¬ LeavesOpen p.scope.action
Holds s (Action u) p = Meets s u.now p.scope.action
Holds s (Principal n) p = MayMeet s n.now p.scope.principal
Holds s (Resource n) p = MayMeet s n.now p.scope.resource

-- there is a policy, and this holds of it
abbrev pub OfPolicy : (PolicyTree → Type 0) → Option PolicyTree → Type 0
OfPolicy P None = ⊥
OfPolicy P (Some p) = P p

-- the first list, with exactly those positions of which this holds
pub data Sifted (Q : ℕ → Type 0) : List ℕ → List ℕ → Type 0 where
  none_left : Sifted Q [] []
  keeps : (k : ℕ) (ks js : List ℕ) → Q k → Sifted Q ks js → Sifted Q (k ∷ ks) (k ∷ js)
  drops : (k : ℕ) (ks js : List ℕ) → ¬ Q k → Sifted Q ks js → Sifted Q (k ∷ ks) js

-- the positions for whose policies this holds
abbrev pub SiftedBy : List PolicyTree → (PolicyTree → Type 0) → List ℕ → List ℕ → Type 0
SiftedBy ps P ks js = Sifted (λ k. OfPolicy P (slice_get ps k)) ks js

-- the positions of all policies, of those that leave the action open, and of the others
pub record ArePositions (s : SchemaTree) (ps : List PolicyTree) (positions : Positions) : Type 0 where
  pub all : positions.all.items ≡ range_with_len 0 (length ps)
  pub leaving : SiftedBy ps (Holds s AnyAction) positions.all.items positions.leaving.items
  pub asking : SiftedBy ps (Holds s SomeAction) positions.all.items positions.asking.items

-- ---- what is kept for each environment

-- what is kept for each type of resources
abbrev pub Cells : Type 0
Cells = BTreeMap (List ℕ) ListingTree

-- the same for each type of principals
abbrev pub RowCells : Type 0
RowCells = BTreeMap (List ℕ) Cells

-- the same for each action
abbrev pub Rows : Type 0
Rows = BTreeMap Uid Row

-- the index lists what was made for each digest
abbrev pub AreListedBy : IndexTree → BTreeMap ℕ ListingTree → Type 0
AreListedBy index made = (digest : ℕ) (cell : ListingTree) → get nat_cmp made digest ≡ Some cell → IsListingBy index cell

-- the positions that a type of resources leaves, as the index lists them
abbrev pub OfResource : SchemaTree → List PolicyTree → IndexTree → List ℕ → List ℕ → ListingTree → Type 0
OfResource s ps index ks m cell = SiftedBy ps (λ p. MayMeet s m p.scope.resource) ks cell.positions × IsListingBy index cell

-- the same for each type of resources
abbrev pub ByResource : SchemaTree → List PolicyTree → IndexTree → List ℕ → List (List ℕ) → Cells → Type 0
ByResource s ps index ks resources cells =
    (m : List ℕ) → Contains resources m → (cell : ListingTree) × (get text_cmp cells m ≡ Some cell) × OfResource s ps index ks m cell

-- for a type of principals, what is kept of the positions that it leaves
abbrev pub OfPrincipal : SchemaTree → List PolicyTree → IndexTree → List ℕ → ActionTree → List ℕ → Cells → Type 0
OfPrincipal s ps index ks action n cells =
    (js : List ℕ) × SiftedBy ps (λ p. MayMeet s n p.scope.principal) ks js × ByResource s ps index js action.resources cells

-- the same for each type of principals
abbrev pub ByPrincipal : SchemaTree → List PolicyTree → IndexTree → List ℕ → ActionTree → RowCells → Type 0
ByPrincipal s ps index ks action row =
    (n : List ℕ) → Contains action.principals n → (cells : Cells) × (get text_cmp row n ≡ Some cells) × OfPrincipal s ps index ks action n cells

-- for an action, what is kept of the positions that it leaves of all
abbrev pub OfAction : SchemaTree → List PolicyTree → IndexTree → Uid → ActionTree → RowCells → Type 0
OfAction s ps index u action row =
    (js : List ℕ) × SiftedBy ps (λ p. Meets s u p.scope.action) (range_with_len 0 (length ps)) js × ByPrincipal s ps index js action row

-- the same for each action
abbrev pub ByAction : SchemaTree → List PolicyTree → IndexTree → Rows → Type 0
ByAction s ps index rows =
    (u : Uid) (action : ActionTree) → action_at s u ≡ Some action → (row : Row) × (get uid_cmp rows u ≡ Some row) × OfAction s ps index u action row.cells.value

-- what is kept for an action and two types
abbrev pub cell_at : Rows → Uid → List ℕ → List ℕ → Option ListingTree
cell_at rows u n m = option_and_then (λ cells. get text_cmp cells m) (option_and_then (λ row. get text_cmp row.cells.value n) (get uid_cmp rows u))

-- the same for an environment
abbrev pub cell_of : Rows → Environment → Option ListingTree
cell_of rows env = cell_at rows env.action env.principal env.resource

-- something is kept for each of these environments
abbrev pub HaveCells : Rows → List Environment → Type 0
HaveCells rows environments = (env : Environment) → Contains environments env → IsSome (cell_of rows env)

-- the list of what is kept for these environments
abbrev pub AreCellsOf : Rows → List Environment → List ListingTree → Type 0
AreCellsOf rows environments cells = map (cell_of rows) environments ≡ map Some cells

-- what is kept for each action, as contracts see it
abbrev pub row_entries : Row → List (List ℕ × List (List ℕ × ListingTree))
row_entries row = map (λ e. (e.0, e.1.entries)) row.cells.value.entries

abbrev pub candidates_tree : IndexTree → Rows → List ListingTree → CandidatesTree
candidates_tree index rows cells = record { index = index; rows = map (λ e. (e.0, row_entries e.1)) rows.entries; listings = cells }
