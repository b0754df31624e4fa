use Rattle.std.proofs.Common.{◌≡◌, ◌++◌, length, map}
use Rattle.std.specs.Vec.Iter.{into_iter_items, into_iter_len}
use Rattle.cedar_parser_tokens.specs.Names.{to_uid}
use Rattle.cedar_parser.proofs.policy.to_uids.Given as goal

abbrev pub invariant-loop-uid : goal.invariant-loop-uid
invariant-loop-uid l = (l.yielded ++ into_iter_items l.uid-iterator ≡ into_iter_items l.initial.uid-iterator)
    × (l.found.items ≡ map to_uid l.yielded)
    × (into_iter_len l.uid-iterator ≡ length (into_iter_items l.uid-iterator))
