-- What is kept for an environment has just its candidates.
use Rattle.std.proofs.Common.{◌≡◌, ℕ, Bool, true, false, cond, List, [], ◌∷◌, map, length, slice_get, Contains, IsSome, Option, Some, None, refl, sym, ap, subst, ◌∙◌}
use Rattle.std.proofs.lemmas.Option.{slice_get-map, slice_get_within, get_or_from_slice_get}
use Rattle.std.proofs.lemmas.Map.Views.{tells_apart}
use Rattle.std.specs.BTreeMap.{get, is_at}
use Rattle.std.specs.List.{range_with_len}
use Rattle.std.specs.List.Sorted.{IsStrictlySortedBy}
use Rattle.std.specs.Map.{keys_of, lookup}
use Rattle.std.specs.Option.{option_and_then, option_map}
use Rattle.cedar_value.specs.Order.{text_cmp, uid_cmp}
use Rattle.cedar_value.specs.Private.Laws.{uid_total}
use Rattle.cedar_value.specs.Private.Same.{uid_same}
use Rattle.cedar_value.specs.declared.uid.Uid.{Uid}
use Rattle.cedar_ast.specs.PolicyTree.{PolicyTree}
use Rattle.cedar_schema_spec.specs.declared.environment.Environment.{Environment}
use Rattle.cedar_schema_spec.specs.SchemaTree.{SchemaTree, ActionTree, action_at, environments_of}
use Rattle.cedar_check_spec.specs.Candidates.{MayMeet, Meets, IsCandidate}
use Rattle.cedar_auth_spec.specs.Candidates.{AreCandidates}
use Rattle.cedar_auth_candidates.specs.Candidates.{AreCandidatesFor, IsKeptFor, listing_at}
use Rattle.cedar_auth_candidates.specs.declared.row.Row.{Row}
use Rattle.cedar_auth_candidates.specs.Index.{IndexTree, IsIndexOf, ListingTree}
use Rattle.cedar_auth_candidates.specs.Private.Sifting.{AreCellsOf, Cells, HaveCells, RowCells, Rows, SiftedBy, OfAction, ByAction, candidates_tree, cell_at, cell_of, row_entries}
use Rattle.cedar_auth_candidates.proofs.Environments.{found_at, looked_up}
use Rattle.base_reach.proofs.Listed.{here, there}
use Rattle.cedar_auth_candidates.proofs.Makings.{IsMaking, making_end}
use Rattle.cedar_auth_candidates.proofs.Sifts.{both_sifted, alike_sifted, sifted_exactly, sifted_ascends}

-- ---- look-ups

-- three look-ups, one after another
three : (rows : Rows) (u : Uid) (n m : List ℕ) (row : Row) (cells : Cells) (cell : ListingTree)
    → get uid_cmp rows u ≡ Some row → get text_cmp row.cells.value n ≡ Some cells → get text_cmp cells m ≡ Some cell → cell_at rows u n m ≡ Some cell
three rows u n m row cells cell a b c =
    ap (λ (o : Option Row). option_and_then (λ (cells : Cells). get text_cmp cells m) (option_and_then (λ (row : Row). get text_cmp row.cells.value n) o)) a
    ∙ ap (λ (o : Option Cells). option_and_then (λ (cells : Cells). get text_cmp cells m) o) b
    ∙ c

-- a look-up among values that were mapped
mapped : {K V W : Type 0} (test : K → Bool) (f : V → W) (es : List (K × V)) → lookup test (map (λ e. (e.0, f e.1)) es) ≡ option_map f (lookup test es)
mapped test f [] = refl
mapped {K} {V} {W} test f (x ∷ xs) = at (test x.0) (mapped test f xs)
  where
    at : (b : Bool) → lookup test (map (λ e. (e.0, f e.1)) xs) ≡ option_map f (lookup test xs)
        → cond b (Some (f x.1)) (lookup test (map (λ e. (e.0, f e.1)) xs)) ≡ option_map f (cond b (Some x.1) (lookup test xs))
    at true e = refl
    at false e = e

in_cells : (m : List ℕ) (o : Option Cells) → option_and_then (λ (cells : List (List ℕ × ListingTree)). lookup (is_at (text_cmp m)) cells) (option_map (λ (cells : Cells). cells.entries) o)
    ≡ option_and_then (λ (cells : Cells). get text_cmp cells m) o
in_cells m None = refl
in_cells m (Some cells) = refl

in_row : (n m : List ℕ) (o : Option Row)
    → option_and_then (λ (cells : List (List ℕ × ListingTree)). lookup (is_at (text_cmp m)) cells)
    (option_and_then (λ (row : List (List ℕ × List (List ℕ × ListingTree))). lookup (is_at (text_cmp n)) row) (option_map row_entries o))
    ≡ option_and_then (λ (cells : Cells). get text_cmp cells m) (option_and_then (λ (row : Row). get text_cmp row.cells.value n) o)
in_row n m None = refl
in_row n m (Some row) =
    ap (option_and_then (λ (cells : List (List ℕ × ListingTree)). lookup (is_at (text_cmp m)) cells)) (mapped (is_at (text_cmp n)) (λ (cells : Cells). cells.entries) row.cells.value.entries)
    ∙ in_cells m (get text_cmp row.cells.value n)

-- what contracts see at an action and two types is what is kept there
pub listing_is : (index : IndexTree) (rows : Rows) (cells : List ListingTree) (u : Uid) (n m : List ℕ) → listing_at (candidates_tree index rows cells) u n m ≡ cell_at rows u n m
listing_is index rows cells u n m =
    ap (λ (o : Option (List (List ℕ × List (List ℕ × ListingTree)))).
    option_and_then (λ (cells : List (List ℕ × ListingTree)). lookup (is_at (text_cmp m)) cells)
    (option_and_then (λ (row : List (List ℕ × List (List ℕ × ListingTree))). lookup (is_at (text_cmp n)) row) o))
    (mapped (is_at (uid_cmp u)) row_entries rows.entries)
    ∙ in_row n m (get uid_cmp rows u)

-- ---- what is kept for environments

candidate_from : (s : SchemaTree) (env : Environment) (p : PolicyTree) → (Meets s env.action p.scope.action × MayMeet s env.principal p.scope.principal) × MayMeet s env.resource p.scope.resource → IsCandidate s env p
candidate_from s env p h = record { principal = h.0.1; action = h.0.0; resource = h.1 }

of_candidate : (s : SchemaTree) (env : Environment) (p : PolicyTree) → IsCandidate s env p → (Meets s env.action p.scope.action × MayMeet s env.principal p.scope.principal) × MayMeet s env.resource p.scope.resource
of_candidate s env p c = ((c.action, c.principal), c.resource)

are_candidates : (s : SchemaTree) (ps : List PolicyTree) (env : Environment) (ks : List ℕ) → SiftedBy ps (IsCandidate s env) (range_with_len 0 (length ps)) ks → AreCandidates s ps env ks
are_candidates s ps env ks by = record { ascend = sifted_ascends ps (IsCandidate s env) ks by; exact = sifted_exactly ps (IsCandidate s env) ks by }

kept_for : (s : SchemaTree) (ps : List PolicyTree) (index : IndexTree) (rows : Rows) → ByAction s ps index rows → IsStrictlySortedBy uid_cmp (keys_of s.actions)
    → (env : Environment) → Contains (environments_of s.actions) env → IsKeptFor s ps index env (cell_at rows env.action env.principal env.resource)
kept_for s ps index rows by up env listed =
    let (a, declared, principal, resource) = found_at s.actions up env listed in
    let (row, row_at, of_action) = by env.action a declared in
    let (by_action, first, principals) = of_action in
    let (cells, cells_at, of_principal) = principals env.principal principal in
    let (by_principal, second, resources) = of_principal in
    let (cell, is_at, of_cell) = resources env.resource resource in
    let (third, listing) = of_cell in
    let all = range_with_len 0 (length ps) in
    record {
      listing = cell;
      is = three rows env.action env.principal env.resource row cells cell row_at cells_at is_at;
      candidates = are_candidates s ps env cell.positions
          (alike_sifted ps (λ p. (Meets s env.action p.scope.action × MayMeet s env.principal p.scope.principal) × MayMeet s env.resource p.scope.resource) (IsCandidate s env) all cell.positions
          (candidate_from s env) (of_candidate s env)
          (both_sifted ps (λ p. Meets s env.action p.scope.action × MayMeet s env.principal p.scope.principal) (λ p. MayMeet s env.resource p.scope.resource) all by_principal cell.positions
          (both_sifted ps (λ p. Meets s env.action p.scope.action) (λ p. MayMeet s env.principal p.scope.principal) all by_action by_principal first second) third));
      listed = listing;
    }

-- there is something for each environment of the schema
pub have_cells : (s : SchemaTree) (ps : List PolicyTree) (index : IndexTree) (rows : Rows) → ByAction s ps index rows → IsStrictlySortedBy uid_cmp (keys_of s.actions) → HaveCells rows (environments_of s.actions)
have_cells s ps index rows by up env listed = subst IsSome (sym (kept_for s ps index rows by up env listed).is) refl

some_of : {A : Type 0} (o : Option A) (p : Option A) → option_map Some o ≡ Some p → o ≡ p
some_of None p h = cc
some_of (Some x) p h = cc

-- what is kept for the environment at a position is at this position
pub cell_is : (rows : Rows) (environments : List Environment) (cells : List ListingTree) → AreCellsOf rows environments cells → (position : ℕ) (env : Environment)
    → slice_get environments position ≡ Some env → slice_get cells position ≡ cell_of rows env
cell_is rows environments cells are position env at =
    some_of (slice_get cells position) (cell_of rows env)
    (sym (slice_get-map Some cells position) ∙ ap (λ (os : List (Option ListingTree)). slice_get os position) (sym are)
    ∙ slice_get-map (cell_of rows) environments position ∙ ap (option_map (cell_of rows)) at)

there_at : {A : Type 0} (xs : List A) (k : ℕ) (x : A) → slice_get xs k ≡ Some x → Contains xs x
there_at xs k x at = (k, slice_get_within xs k x at, get_or_from_slice_get xs k x x at)

pub candidates_for : (s : SchemaTree) (ps : List PolicyTree) (index : IndexTree) (rows : Rows) (cells : List ListingTree) → IsIndexOf ps index → ByAction s ps index rows → IsStrictlySortedBy uid_cmp (keys_of s.actions)
    → AreCellsOf rows (environments_of s.actions) cells → AreCandidatesFor s ps (candidates_tree index rows cells)
candidates_for s ps index rows cells indexed by up are = record {
  indexed = indexed;
  kept = λ env listed. subst (λ (o : Option ListingTree). IsKeptFor s ps index env o) (sym (listing_is index rows cells env.action env.principal env.resource)) (kept_for s ps index rows by up env listed);
  placed = λ position env at. subst (λ (o : Option ListingTree). IsKeptFor s ps index env o) (sym (cell_is rows (environments_of s.actions) cells are position env at))
      (kept_for s ps index rows by up env (there_at (environments_of s.actions) position env at));
}

-- ---- how the rows are made

-- what is kept for a listed action is kept for the action that is found
pub row_right : (s : SchemaTree) (ps : List PolicyTree) (index : IndexTree) (u : Uid) (a : ActionTree) (row : RowCells) → IsStrictlySortedBy uid_cmp (keys_of s.actions) → Contains s.actions (u, a)
    → OfAction s ps index u a row → (action : ActionTree) → action_at s u ≡ Some action → OfAction s ps index u action row
row_right s ps index u a row up m of action found =
    let both : Some a ≡ Some action = sym (looked_up s.actions up u a m) ∙ found in
    let same : a ≡ action = cc in
    subst (λ (x : ActionTree). OfAction s ps index u x row) same of

listed_key : (actions : List (Uid × ActionTree)) (u : Uid) (a : ActionTree) → lookup (is_at (uid_cmp u)) actions ≡ Some a → Contains (keys_of actions) u
listed_key [] u a h = cc
listed_key (x ∷ xs) u a h = at (is_at (uid_cmp u) x.0) refl (listed_key xs u a) h
  where
    at : (b : Bool) → is_at (uid_cmp u) x.0 ≡ b → (lookup (is_at (uid_cmp u)) xs ≡ Some a → Contains (keys_of xs) u) → cond b (Some x.1) (lookup (is_at (uid_cmp u)) xs) ≡ Some a → Contains (x.0 ∷ keys_of xs) u
    at true e rest g = subst (λ (v : Uid). Contains (v ∷ keys_of xs) u) (tells_apart {R = uid_cmp} uid_same u x.0 e) (here u (keys_of xs))
    at false e rest g = there x.0 (keys_of xs) u (rest g)

-- all rows are there
pub rows_made : (s : SchemaTree) (ps : List PolicyTree) (index : IndexTree) (rows : Rows) (left : List (Uid × ActionTree)) → left ≡ []
    → IsMaking uid_cmp (λ (u : Uid) (row : Row). (action : ActionTree) → action_at s u ≡ Some action → OfAction s ps index u action row.cells.value) rows (keys_of left) (keys_of s.actions)
    → ByAction s ps index rows
rows_made s ps index rows left none m u action found =
    let e = making_end uid_total uid_same (λ (u : Uid) (row : Row). (action : ActionTree) → action_at s u ≡ Some action → OfAction s ps index u action row.cells.value) rows (keys_of left) (keys_of s.actions) (ap (λ (es : List (Uid × ActionTree)). keys_of es) none) m u (listed_key s.actions u action found) in
    (e.0, e.1, e.2 action found)
