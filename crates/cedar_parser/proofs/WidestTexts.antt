-- A text of a language is read in Cedar 4.
use Rattle.std.proofs.Common.{refl, ℕ, List, [], All}
use Rattle.cedar_ext.specs.declared.language.Language.{Language}
use Rattle.cedar_ext.specs.declared.language.Language.TheVariants.{Cedar4}
use Rattle.cedar_ast.specs.PolicySetTree.{PolicySetTree}
use Rattle.cedar_parser_tokens.specs.Marks.{Marks}
use Rattle.cedar_parser_tree.specs.StatementTree.{StatementTree}
use Rattle.cedar_parser_limits.specs.StatementLimits.{IsWithinLimits}
use Rattle.cedar_parser_limits.proofs.Widening.{within_widest}
use Rattle.cedar_parser.specs.PolicyText.{ArePolicies, IsRead, IsPolicyText, written, normal}

all_within : (l : Language) (ss : List StatementTree) → All (IsWithinLimits l) ss → All (IsWithinLimits Cedar4) ss
all_within l ss h = λ k d i. within_widest l _ (h k d i)

pub policies_in_widest : (l : Language) (ts us : Marks) (set : PolicySetTree) → ArePolicies l ts us set → ArePolicies Cedar4 ts us set
policies_in_widest l ts us set are = record {
  statements = are.statements;
  reading = are.reading;
  limits = all_within l are.statements are.limits;
  meaning = are.meaning;
  distinct = are.distinct;
}

tokens_in_widest : (l : Language) (source : List ℕ) (ts : Marks) → IsRead l source ts → IsRead Cedar4 source ts
tokens_in_widest l source ts (written i) = written i
tokens_in_widest l source ts (normal e i none n) = normal refl i none n

pub read_in_widest : (l : Language) (source : List ℕ) (set : PolicySetTree) → IsPolicyText l source set → IsPolicyText Cedar4 source set
read_in_widest l source set h = record {
  tokens = h.tokens;
  are_tokens = tokens_in_widest l source h.tokens h.are_tokens;
  are_policies = policies_in_widest l h.tokens [] set h.are_policies;
}
