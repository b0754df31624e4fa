-- The codes of policies.
use Rattle.std.specs.Prelude.{◌≡◌, ◌<◌, ℕ, List, length, Contains, Some}
use Rattle.std.specs.List.{slice_get}
use Rattle.cedar_ast.specs.declared.effect.Effect.{Effect}
use Rattle.cedar_ast.specs.PolicyTree.{PolicyTree}
use Rattle.cedar_ast.specs.Condition.{condition_of}
use Rattle.cedar_code.specs.declared.instruction.Instruction.{Instruction}
use Rattle.cedar_code.specs.Code.{code_of, most_instructions}

-- The code of a policy: that of its condition (Cedar language reference, policy scope and conditions).
abbrev pub policy_code : PolicyTree → List Instruction
policy_code p = code_of (condition_of p)

-- The code of one of the policies would have over 1,000,000 instructions (own).
abbrev pub HasLongCode : List PolicyTree → Type 0
HasLongCode ps = (p : PolicyTree) × Contains ps p × (most_instructions < length (policy_code p))

-- The code, the id and the effect are those of the policy at this position (own).
abbrev pub IsPartAt : List PolicyTree → ℕ → List Instruction → List ℕ → Effect → Type 0
IsPartAt ps position code id effect = (p : PolicyTree) → slice_get ps position ≡ Some p → (code ≡ policy_code p) × (id ≡ p.id) × (effect ≡ p.effect)
