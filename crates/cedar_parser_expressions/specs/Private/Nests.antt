-- A function value that reads expressions to a depth.
use Rattle.std.specs.Prelude.{ℕ, Result}
use Rattle.std.specs.Global.{Box}
use Rattle.std.specs.declared.alloc.Global.{Global}
use denote.Ref.{MutBor}
use Rattle.cedar_parser_tokens.specs.Marks.{Marks}
use Rattle.cedar_parser_tree.specs.Written.{Written}
use Rattle.cedar_parser_tokens.specs.declared.parse_fault.ParseFault.{ParseFault}
use Rattle.cedar_parser_expressions.specs.Reading.{nested}
use Rattle.cedar_parser_expressions.specs.Private.Boxed.{ReadsBoxed}

pub record Nests (depth : ℕ) (pre : Global → MutBor Marks → ℕ → Type 0)
    (post : Global → MutBor Marks → ℕ → Result (Box Written) ParseFault → MutBor Marks → Type 0) : Type 0 where
  pub callable : (alloc : Global) (old : MutBor Marks) → pre alloc old depth
  pub reads : (alloc : Global) (old new : MutBor Marks) (r : Result (Box Written) ParseFault) → post alloc old depth r new → ReadsBoxed (nested depth old.now) r new.now
