-- A function value that reads the operands of a level of chains.
use Rattle.std.specs.Prelude.{ℕ, Result}
use Rattle.std.specs.Global.{Box}
use denote.Ref.{MutBor}
use Rattle.cedar_parser_tokens.specs.Marks.{Marks}
use Rattle.cedar_parser_tokens.specs.declared.parse_fault.ParseFault.{ParseFault}
use Rattle.cedar_parser_expressions.specs.Private.Boxed.{ReadsBoxed}
use Rattle.cedar_parser_expressions.specs.declared.chain_level.ChainLevel.{ChainLevel}
use Rattle.cedar_parser_tree.specs.Written.{Written}
use Rattle.cedar_parser_expressions.specs.Reading.{nested, operand_of}

pub record Operands (depth : ℕ) (level : ChainLevel) (pre : MutBor Marks → Type 0) (post : MutBor Marks → Result (Box Written) ParseFault → MutBor Marks → Type 0) : Type 0 where
  pub callable : (old : MutBor Marks) → pre old
  pub reads : (old new : MutBor Marks) (r : Result (Box Written) ParseFault) → post old r new → ReadsBoxed (operand_of depth (nested depth) level old.now) r new.now
