-- What a statement is, and why tokens begin with none (Cedar language reference, grammar: Policy).
use Rattle.std.specs.Prelude.{◌≡◌, ℕ, suc, Result, Ok, Err}
use Rattle.cedar_parser_tokens.specs.Marks.{Marks}
use Rattle.cedar_parser_tokens.specs.declared.parse_fault.ParseFault.{ParseFault}
use Rattle.cedar_parser_tokens.specs.declared.parse_fault.ParseFault.TheVariants as f
use Rattle.cedar_parser_expressions.specs.Nesting.{IsDeep}
use Rattle.cedar_parser_tree.specs.StatementTree.{StatementTree}
use Rattle.cedar_parser_statements.specs.Statements.{Statement}

-- How many brackets and `if`s may be open at one place inside a condition (own).
abbrev pub max_open : ℕ
max_open = 100

-- The tokens from ts up to us are this statement, which nests no deeper than the limit (Cedar language reference, grammar:
-- Policy; own in the limit).
abbrev pub IsStatement : Marks → StatementTree → Marks → Type 0
IsStatement ts s us = Statement (suc max_open) ts s us

-- The answer is this statement and these tokens are left, or memory ran out (own).
abbrev pub HasStatement : StatementTree → Marks → Result StatementTree ParseFault → Marks → Type 0
HasStatement s us (Ok found) left = (found ≡ s) × (left ≡ us)
HasStatement s us (Err f.OutOfMemory) left = Unit {0}
HasStatement s us (Err _) left = ⊥

-- The tokens are refused since they do not begin with a statement, or since more brackets open than may. Out of memory says
-- nothing about them (own).
abbrev pub HasStatementFault : Marks → ParseFault → Type 0
HasStatementFault ts f.OutOfMemory = Unit {0}
HasStatementFault ts (f.Syntax at) = (d : ℕ) (s : StatementTree) (us : Marks) → Statement d ts s us → ⊥
HasStatementFault ts (f.TooDeep at) = IsDeep max_open ts
HasStatementFault ts _ = ⊥
