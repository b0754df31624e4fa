use Rattle.std.proofs.Common.{take}
use Rattle.cedar_ast_expressions.proofs.KeyLemmas.{IsSetOf}
use Rattle.cedar_ast_expressions.proofs.keys.first_repeated.Given as goal

abbrev pub invariant-loop-place : goal.invariant-loop-place
invariant-loop-place l = IsSetOf (take l.place l.keys) l.seen
