use Rattle.std.proofs.Common.{◌≡◌, take}
use Rattle.cedar_ast_expressions.specs.Keys.{keys_of}
use Rattle.cedar_ast_expressions.proofs.entries.copy_keys.Given as goal

abbrev pub invariant-loop-pair : goal.invariant-loop-pair
invariant-loop-pair l = l.keys.items ≡ keys_of (take l.pair-index l.pairs)
