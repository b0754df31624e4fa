use Rattle.std.proofs.Common.{◌≡◌, take}
use Rattle.cedar_value.proofs.+copy.Given as goal

abbrev pub invariant-value_set::clone_members-loop-member : goal.invariant-value_set::clone_members-loop-member
invariant-value_set::clone_members-loop-member l = l.copies.items ≡ take l.member-index l.members

abbrev pub invariant-value_record::clone_pairs-loop-pair : goal.invariant-value_record::clone_pairs-loop-pair
invariant-value_record::clone_pairs-loop-pair l = l.copies.items ≡ take l.pair-index l.pairs
