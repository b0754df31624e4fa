use Rattle.std.proofs.Common.{◌≡◌, take, map}
use Rattle.cedar_ast_expressions.specs.Keys.{keys_of}
use Rattle.cedar_ast_expressions.proofs.entries.lent_keys.Given as goal

abbrev pub invariant-loop-pair : goal.invariant-loop-pair
invariant-loop-pair l = map (λ k. k.now) l.keys.items ≡ keys_of (take l.pair-index l.pairs)
