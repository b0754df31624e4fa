-- How rows are made for actions.
use Rattle.std.specs.Prelude.{◌≡◌, ℕ, List, Contains, Some}
use Rattle.std.specs.BTreeMap.{BTreeMap, get}
use Rattle.std.specs.Ordering.{nat_cmp}
use Rattle.cedar_ast.specs.PolicyTree.{PolicyTree}
use Rattle.cedar_schema_spec.specs.SchemaTree.{SchemaTree, ActionTree}
use Rattle.cedar_auth_candidates.specs.Index.{IndexTree}
use Rattle.cedar_auth_candidates.specs.declared.row_maker.MadeRow.{MadeRow}
use Rattle.cedar_auth_candidates.specs.Private.Sifting.{ByPrincipal}

-- the one action applies to no type to which the other does not
pub record AppliesWithin (a b : ActionTree) : Type 0 where
  pub principals : (n : List ℕ) → Contains a.principals n → Contains b.principals n
  pub resources : (n : List ℕ) → Contains a.resources n → Contains b.resources n

-- each row that was made is right for its action, of these positions
abbrev pub AreRight : SchemaTree → List PolicyTree → IndexTree → List ℕ → BTreeMap ℕ MadeRow → Type 0
AreRight s ps index ks made =
    (digest : ℕ) (one : MadeRow) → get nat_cmp made digest ≡ Some one → ByPrincipal s ps index ks one.action.now one.row.cells.value
