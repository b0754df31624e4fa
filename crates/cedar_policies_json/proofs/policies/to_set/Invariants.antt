use Rattle.std.proofs.Common.{◌≡◌, ◌++◌, length}
use Rattle.std.specs.Vec.Iter.{into_iter_items, into_iter_len}
use Rattle.cedar_policies_json.specs.PolicyFiles.{ArePolicies}
use Rattle.cedar_policies_json.proofs.policies.to_set.Given as goal

abbrev pub invariant-loop-named : goal.invariant-loop-named
invariant-loop-named l = record {
  whole : l.yielded ++ into_iter_items l.named-iterator ≡ into_iter_items l.initial.named-iterator;
  entered : ArePolicies l.language l.yielded l.set;
  place : l.position ≡ length l.yielded;
  left : into_iter_len l.named-iterator ≡ length (into_iter_items l.named-iterator);
}
