use Rattle.std.proofs.Common.{◌≡◌, take, map}
use Rattle.cedar_parser_tree.specs.declared.written_statement.WrittenAnnotation.{WrittenAnnotation}
use Rattle.cedar_parser_limits.proofs.judgement.lent_names.Given as goal

abbrev pub invariant-loop-annotation : goal.invariant-loop-annotation
invariant-loop-annotation l = map (λ k. k.now) l.names.items ≡ map (λ (a : WrittenAnnotation). a.name) (take l.annotation-index l.annotations)
