use Rattle.std.proofs.Common.{◌≡◌, max, ◌+◌, ◌*◌, ◌≤◌, length, drop, map, take}
use Rattle.cedar_schema_types.specs.Types.{Attributes, no_attributes}
use Rattle.cedar_schema_types.proofs.Names.{name_of}
use Rattle.cedar_ast_expressions.specs.Expression.{Expression, entries_of, expressions_of}
use Rattle.cedar_ast_expressions.specs.Keys.{keys_of}
use Rattle.cedar_ast_expressions.specs.Private.Depth.{depth, list_depth, pairs_depth}
use Rattle.cedar_check_spec.specs.Private.Checking.{and_type, on_boolean, type_of_with, types_entries, types_onto}
use Rattle.cedar_check_operators.specs.View.{held_view, tree_of, typing_view}
use Rattle.cedar_check.proofs.MadeRecord.{IsMade}
use Rattle.cedar_check.specs.Private.Spine.{Leads, rows_from}
use Rattle.cedar_check.proofs.checker.Checker.+check.Given as goal

-- a greater factor leaves room between the levels for the functions on the way from one to the next
abbrev pub decreases-check : goal.decreases-check
decreases-check l = 8 * depth l.expression.now + 7

abbrev pub decreases-check_last : goal.decreases-check_last
decreases-check_last l = 8 * depth l.expression.now + 6

abbrev pub decreases-check_above : goal.decreases-check_above
decreases-check_above l = 8 * depth l.expression.now + 5

abbrev pub decreases-check_row : goal.decreases-check_row
decreases-check_row l = 8 * depth l.expression.now + 4

abbrev pub decreases-check_holding : goal.decreases-check_holding
decreases-check_holding l = 8 * depth l.expression.now + 8

abbrev pub decreases-check_and : goal.decreases-check_and
decreases-check_and l = 8 * depth l.right.now + 10

abbrev pub decreases-check_part : goal.decreases-check_part
decreases-check_part l = 8 * depth l.right.now + 9

abbrev pub decreases-check_or : goal.decreases-check_or
decreases-check_or l = 8 * depth l.right.now + 8

abbrev pub decreases-check_if : goal.decreases-check_if
decreases-check_if l = 8 * max (depth l.first.now) (depth l.second.now) + 9

abbrev pub decreases-check_binary : goal.decreases-check_binary
decreases-check_binary l = 8 * depth l.right.now + 8

abbrev pub decreases-check_members : goal.decreases-check_members
decreases-check_members l = 8 * list_depth l.others.now

abbrev pub decreases-check_set : goal.decreases-check_set
decreases-check_set l = 8 * list_depth l.members.now + 1

abbrev pub decreases-check_record : goal.decreases-check_record
decreases-check_record l = 8 * pairs_depth l.pairs.now + 1

-- the rows that are left give the type of the whole, from the typing so far
abbrev pub invariant-check-up : goal.invariant-check-up
invariant-check-up l =
    (l.count ≤ length l.passed) × ((last : Expression) × Leads l.expression (take l.count l.passed) last) × (rows_from l.self.settings l.self.schema.now l.self.environment.now (held_view l.held) (take l.count l.passed) (typing_view l.typing) ≡ type_of_with l.self.settings l.self.schema.now l.self.environment.now (held_view l.held) l.expression)

abbrev pub decreases-check-up : goal.decreases-check-up
decreases-check-up l = l.count

-- what is left of the chain gives the type of the whole, from the typing so far
abbrev pub invariant-check_and-parts : goal.invariant-check_and-parts
invariant-check_and-parts l =
    (depth l.rest ≤ depth l.fn.right) × (on_boolean (typing_view l.typing) (and_type (held_view l.held) (λ k. type_of_with l.self.settings l.self.schema.now l.self.environment.now k l.rest)) ≡ on_boolean (typing_view l.fn.left) (and_type (held_view l.held) (λ k. type_of_with l.self.settings l.self.schema.now l.self.environment.now k l.fn.right)))

abbrev pub decreases-check_and-parts : goal.decreases-check_and-parts
decreases-check_and-parts l = depth l.rest

-- what is left joins onto what has been joined
abbrev pub invariant-check_members-loop-member : goal.invariant-check_members-loop-member
invariant-check_members-loop-member l =
    types_onto l.self.settings l.self.schema.now l.self.environment.now (held_view l.held) (tree_of l.joined) (expressions_of (drop l.member-index l.others)) ≡ types_onto l.self.settings l.self.schema.now l.self.environment.now (held_view l.held) (tree_of l.fn.first) (expressions_of l.others)

-- the names that have come in are the first keys, and onto the attributes that they make comes what is left
abbrev pub invariant-check_record-loop-pair : goal.invariant-check_record-loop-pair
invariant-check_record-loop-pair l = record {
  names : map name_of l.attributes.items ≡ take l.pair-index (keys_of l.pairs);
  made : (at : Attributes) × IsMade at l.attributes.items
      × (types_entries l.self.settings l.self.schema.now l.self.environment.now (held_view l.held) at (entries_of (drop l.pair-index l.pairs)) ≡ types_entries l.self.settings l.self.schema.now l.self.environment.now (held_view l.held) no_attributes (entries_of l.pairs));
}
