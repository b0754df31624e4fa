-- What was read before is read as it was.
use Rattle.std.proofs.Common.{ℕ, List, [], All, ◌∙◌}
use Rattle.cedar_ext.specs.declared.language.Language.TheVariants.{Profile}
use Rattle.cedar_ast.specs.PolicySetTree.{PolicySetTree, no_policies}
use Rattle.cedar_parser_tree.specs.declared.written_statement.WrittenCondition.{WrittenCondition}
use Rattle.cedar_parser_tree.specs.StatementTree.{StatementTree}
use Rattle.cedar_parser_statements.proofs.EarlierReadings.{statements_within}
use Rattle.cedar_parser_statements.proofs.EarlierPaths.{AskForNoPath, statements_free}
use Rattle.cedar_parser_limits.specs.StatementLimits.{IsWithinLimits}
use Rattle.cedar_parser.specs.PolicyText.{IsPolicyText, written}
use Rattle.cedar_parser.specs.Earlier.{UsesEarlier, WasWithinLimits, IsEarlierPolicyText}
use Rattle.cedar_parser.proofs.EarlierMeanings.{same_entered}
use Rattle.cedar_parser.proofs.EarlierLimits.{within_limits}

-- the methods of statements that were within the limits
calls_of : (ss : List StatementTree) → All WasWithinLimits ss → All (λ (s : StatementTree). All (λ (c : WrittenCondition). UsesEarlier c.body) s.conditions) ss
calls_of ss h = λ k d i. (h k d i).calls

limits_of : (ss : List StatementTree) → All (λ (s : StatementTree). AskForNoPath s.conditions) ss → All WasWithinLimits ss → All (IsWithinLimits Profile) ss
limits_of ss p h = λ k d i. within_limits _ (p k d i) (h k d i)

pub earlier_text : (source : List ℕ) (set : PolicySetTree) → IsEarlierPolicyText source set → IsPolicyText Profile source set
earlier_text source set h =
    let free = statements_free 101 h.tokens [] h.statements h.reading in
    record {
      tokens = h.tokens;
      are_tokens = written h.are_tokens;
      are_policies = record {
        statements = h.statements;
        reading = statements_within 101 h.tokens [] h.statements h.reading;
        limits = limits_of h.statements free h.limits;
        meaning = h.meaning ∙ same_entered h.statements free (calls_of h.statements h.limits) no_policies 0;
        distinct = h.distinct;
      };
    }
