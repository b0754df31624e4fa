-- The entries of the maps from ids to policies and to templates.
use Rattle.std.specs.Prelude.{◌≡◌, ℕ, List, ◌++◌, map, string_bytes, String}
use Rattle.std.specs.declared.alloc.Global.{Global}
use Rattle.cedar_ast_expressions.specs.Keys.{AreDistinct}
use Rattle.cedar_ast.specs.PolicyTree.{PolicyTree}
use Rattle.cedar_ast.specs.PolicyTree.{TemplateTree}

-- the ids of the entries, and their values
abbrev pub keys_of : {A : Type 0} → List (String Global × A) → List (List ℕ)
keys_of es = map (λ e. string_bytes e.0) es

abbrev pub values_in : {A : Type 0} → List (String Global × A) → List A
values_in es = map (λ e. e.1) es

-- each value is at its own id
abbrev pub StandAtTheirIds : {A : Type 0} → (A → List ℕ) → List (String Global × A) → Type 0
StandAtTheirIds id es = keys_of es ≡ map id (values_in es)

-- and no two have one id
pub record AreById (ps : List (String Global × PolicyTree)) (ts : List (String Global × TemplateTree)) : Type 0 where
  pub policies : StandAtTheirIds (λ p. p.id) ps
  pub templates : StandAtTheirIds (λ t. t.id) ts
  pub distinct : AreDistinct (map (λ p. p.id) (values_in ps) ++ map (λ t. t.id) (values_in ts))
