-- The texts of answers that name one policy and no error.
use Rattle.std.specs.Prelude.{ℕ, List, codes}
use Rattle.cedar_ast.specs.declared.decision.Decision.{Decision}
use Rattle.cedar_ast.specs.declared.decision.Decision.TheVariants.{Allow, Deny}

-- what is before the id
abbrev pub beginning_of : Decision → List ℕ
beginning_of Allow = codes "{\"decision\":\"allow\",\"determining\":[\""
beginning_of Deny = codes "{\"decision\":\"deny\",\"determining\":[\""

-- what follows the id
abbrev pub end_of_one : List ℕ
end_of_one = codes "\"],\"erring\":[]}"
