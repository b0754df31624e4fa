use Rattle.std.proofs.Common.{◌≡◌, suc, ◌+◌, ◌*◌, take, drop, fold}
use Rattle.cedar_ast_expressions.specs.Expression.{expressions_of}
use Rattle.cedar_parser_tree.specs.WrittenKind.{links_of, fields_of}
use Rattle.cedar_parser_tree.specs.Written.{parts, link_parts, member_parts, field_parts, members_of}
use Rattle.cedar_ext.specs.declared.language.Language.TheVariants.{Cedar4}
use Rattle.cedar_parser_limits.specs.Meaning.{to_expression, to_expressions}
use Rattle.cedar_parser_limits.specs.Limits.{KeepLinks, KeepMembers, KeepFields}
use Rattle.cedar_parser_limits.specs.Private.Parts.{behind, pairs_of}
use Rattle.cedar_parser_limits.proofs.PartLemmas.{link_weight}
use Rattle.cedar_parser.specs.Private.Kept.{Every}
use Rattle.cedar_parser.proofs.expression.+expression.Given as goal

abbrev pub decreases-to_boxed : goal.decreases-to_boxed
decreases-to_boxed l = 2 * parts l.written.now

abbrev pub decreases-to_chain : goal.decreases-to_chain
decreases-to_chain l = suc (2 * (parts l.first.now + link_parts (links_of l.links.now)))

abbrev pub decreases-append_link : goal.decreases-append_link
decreases-append_link l = suc (2 * link_weight l.link.now)

abbrev pub decreases-to_unary : goal.decreases-to_unary
decreases-to_unary l = suc (2 * parts l.operand.now)

abbrev pub decreases-to_is_in : goal.decreases-to_is_in
decreases-to_is_in l = suc (2 * (parts l.left.now + parts l.right.now))

abbrev pub decreases-to_if_else : goal.decreases-to_if_else
decreases-to_if_else l = suc (2 * (parts l.condition.now + (parts l.if_true.now + parts l.if_false.now)))

abbrev pub decreases-to_expressions : goal.decreases-to_expressions
decreases-to_expressions l = suc (2 * member_parts (members_of l.members.now))

abbrev pub decreases-to_record : goal.decreases-to_record
decreases-to_record l = suc (2 * field_parts (fields_of l.fields.now))

abbrev pub decreases-to_pairs : goal.decreases-to_pairs
decreases-to_pairs l = 2 * field_parts (fields_of l.fields.now)

abbrev pub invariant-to_chain-loop-link : goal.invariant-to_chain-loop-link
invariant-to_chain-loop-link l = record {
  done : l.left.value ≡ fold behind (to_expression l.first) (take l.link-index l.links);
  kept : Every (λ s. KeepLinks Cedar4 s (links_of (drop l.link-index l.links)));
}

abbrev pub invariant-to_expressions-loop-member : goal.invariant-to_expressions-loop-member
invariant-to_expressions-loop-member l = record {
  done : expressions_of l.found.items ≡ to_expressions (members_of (take l.member-index l.members));
  kept : Every (λ s. KeepMembers Cedar4 s (members_of (drop l.member-index l.members)));
}

abbrev pub invariant-to_pairs-loop-field : goal.invariant-to_pairs-loop-field
invariant-to_pairs-loop-field l = record {
  done : l.found.items ≡ pairs_of (take l.field-index l.fields);
  kept : Every (λ s. KeepFields Cedar4 s (fields_of (drop l.field-index l.fields)));
}
