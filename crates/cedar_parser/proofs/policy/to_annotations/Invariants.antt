use Rattle.std.proofs.Common.{◌≡◌, ◌++◌, length, map}
use Rattle.std.specs.Vec.Iter.{into_iter_items, into_iter_len}
use Rattle.cedar_parser_limits.specs.StatementMeaning.{to_annotation}
use Rattle.cedar_parser.proofs.policy.to_annotations.Given as goal

abbrev pub invariant-loop-annotation : goal.invariant-loop-annotation
invariant-loop-annotation l = (l.yielded ++ into_iter_items l.annotation-iterator ≡ into_iter_items l.initial.annotation-iterator)
    × (l.found.items ≡ map to_annotation l.yielded)
    × (into_iter_len l.annotation-iterator ≡ length (into_iter_items l.annotation-iterator))
