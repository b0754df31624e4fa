-- A set of policies and templates, in order (Cedar language reference, policies and policy templates).
use Rattle.std.specs.Prelude.{ℕ, List, [], ◌∷◌, ◌++◌, map}
use Rattle.cedar_ast.specs.PolicyTree.{PolicyTree}
use Rattle.cedar_ast.specs.PolicyTree.{TemplateTree}
use Rattle.cedar_ast.specs.declared.statement.Statement.{Statement}
use Rattle.cedar_ast.specs.declared.statement.Statement.TheVariants as statement

-- A set of policies: the policies, which answer requests, and the templates, each list in the order of entry (Cedar
-- language reference, policies and policy templates).
pub record PolicySetTree : Type 0 where
  pub policies : List PolicyTree
  pub templates : List TemplateTree

-- The set without policies (this project).
abbrev pub no_policies : PolicySetTree
no_policies = record { policies = []; templates = [] }

-- The id of a statement (Cedar language reference, policies).
abbrev pub id_of : Statement → List ℕ
id_of (statement.Policy p) = p.id
id_of (statement.Template t) = t.id

-- The ids of policies, in order (Cedar language reference, policies).
abbrev pub ids_of : List PolicyTree → List (List ℕ)
ids_of ps = map (λ p. p.id) ps

-- The ids that are taken in a set, of policies and of templates (Cedar language reference, policies).
abbrev pub ids_in : PolicySetTree → List (List ℕ)
ids_in s = ids_of s.policies ++ map (λ t. t.id) s.templates

-- A set with one more policy or template, entered last (this project).
abbrev pub entered : PolicySetTree → Statement → PolicySetTree
entered s (statement.Policy p) = record { policies = s.policies ++ p ∷ []; templates = s.templates }
entered s (statement.Template t) = record { policies = s.policies; templates = s.templates ++ t ∷ [] }
