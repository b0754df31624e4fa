use Rattle.std.proofs.Common.{◌≡◌, ◌≤◌, ◌*◌, length}
use Rattle.cedar_value.specs.Datum.{members_of, fields_of}
use Rattle.cedar_value.specs.Private.Weight.{weight, list_weight, pairs_weight}
use Rattle.cedar_schema_spec.specs.Enumerated.{members_listed, fields_listed}
use Rattle.cedar_schema.proofs.schema.Schema.+listed.Given as goal

abbrev pub decreases-lists_value : goal.decreases-lists_value
decreases-lists_value l = 2 * weight l.value.now

abbrev pub decreases-lists_members : goal.decreases-lists_members
decreases-lists_members l = 2 * list_weight l.members.now

abbrev pub decreases-lists_pairs : goal.decreases-lists_pairs
decreases-lists_pairs l = 2 * pairs_weight l.pairs.now

-- all are listed where those that are left are
abbrev pub invariant-lists_members-walk : goal.invariant-lists_members-walk
invariant-lists_members-walk l = record {
  same : members_listed l.self (members_of l.rest) ≡ members_listed l.self (members_of l.members);
  less : list_weight l.rest ≤ list_weight l.members;
}

abbrev pub decreases-lists_members-walk : goal.decreases-lists_members-walk
decreases-lists_members-walk l = length l.rest

abbrev pub invariant-lists_pairs-walk : goal.invariant-lists_pairs-walk
invariant-lists_pairs-walk l = record {
  same : fields_listed l.self (fields_of l.rest) ≡ fields_listed l.self (fields_of l.pairs);
  less : pairs_weight l.rest ≤ pairs_weight l.pairs;
}

abbrev pub decreases-lists_pairs-walk : goal.decreases-lists_pairs-walk
decreases-lists_pairs-walk l = length l.rest
