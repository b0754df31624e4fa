-- What contracts see of an operand stack.
use Rattle.std.specs.Prelude.{ℕ, List}
use Rattle.cedar_value.specs.Datum.{Datum}

-- A stack: its values, the top first, and how many fit with no allocation (this project).
pub record StackView : Type 0 where
  pub values : List Datum
  pub capacity : ℕ
