use Rattle.std.proofs.Common.{◌≡◌, min, take}
use Rattle.cedar_ast_expressions.specs.Expression.{expressions_of, entries_of}
use Rattle.cedar_code.specs.Code.{size_all, size_entries}
use Rattle.cedar_code.proofs.compiler.+count.Given as goal

abbrev pub invariant-count_entries-loop-pair : goal.invariant-count_entries-loop-pair
invariant-count_entries-loop-pair l = l.count ≡ min (size_entries (entries_of (take l.pair-index l.pairs))) 18446744073709551615

abbrev pub invariant-count_members-loop-member : goal.invariant-count_members-loop-member
invariant-count_members-loop-member l = l.count ≡ min (size_all (expressions_of (take l.member-index l.members))) 18446744073709551615
