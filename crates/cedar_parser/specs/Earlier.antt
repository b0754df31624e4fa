-- What a policy text was before `has` could have a path of attributes and before the method `isEmpty` existed. The side
-- conditions on strings, numbers, keys, slots and annotations are those of today, which concern neither (Cedar language
-- reference, grammar).
use Rattle.std.specs.Prelude.{◌≡◌, ℕ, suc, ◌≤◌, List, [], All, codes, IsSome, IsTrue}
use Rattle.std.specs.Str.{bytes_eq}
use Rattle.cedar_ast_expressions.specs.Keys.{AreDistinct}
use Rattle.cedar_ast.specs.Condition.{condition_of}
use Rattle.cedar_ast.specs.PolicySetTree.{PolicySetTree, no_policies}
use Rattle.cedar_parser_tokens.specs.Marks.{Marks, IsMarked}
use Rattle.cedar_parser_tree.specs.Written.{Written, group, not, negated, relation, has, like, is, is_in, chain, choice, set, record_of, call, Links, no_links, operand, attribute, method, Members, no_members, member, Fields, no_fields, field}
use Rattle.cedar_parser_tree.specs.StatementTree.{StatementTree}
use Rattle.cedar_parser_statements.specs.StatementText.{max_open}
use Rattle.cedar_parser_statements.specs.Earlier.{EarlierStatements}
use Rattle.cedar_ext.specs.declared.language.Language.TheVariants.{Profile}
use Rattle.cedar_parser_limits.specs.declared.side_condition.SideCondition.{SideCondition}
use Rattle.cedar_parser_limits.specs.declared.side_condition.SideCondition.TheVariants.{Names, Counts}
use Rattle.cedar_parser_limits.specs.declared.size.Size.{Size}
use Rattle.cedar_parser_limits.specs.StatementMeaning.{ids_from}
use Rattle.cedar_parser_limits.specs.StatementLimits.{KeepsStatement}
use Rattle.cedar_parser_limits.specs.Limits.{count_of, size_of, max_height, max_nodes}
use Rattle.cedar_parser.specs.EarlierMeaning.{earlier_method_of, earlier_policy, earlier_entered}

abbrev mutual
  -- Each function in an expression is `decimal`, each method is one of those that there were, and each of them has one argument
  -- (Cedar language reference, functions).
  pub UsesEarlier : Written → Type 0
  UsesEarlier (group a) = UsesEarlier a
  UsesEarlier (not a) = UsesEarlier a
  UsesEarlier (negated a) = UsesEarlier a
  UsesEarlier (relation sign a b) = UsesEarlier a × UsesEarlier b
  UsesEarlier (has a c more) = UsesEarlier a
  UsesEarlier (like a p) = UsesEarlier a
  UsesEarlier (is a ty) = UsesEarlier a
  UsesEarlier (is_in a ty b) = UsesEarlier a × UsesEarlier b
  UsesEarlier (chain a ls) = UsesEarlier a × LinksUseEarlier ls
  UsesEarlier (choice c a b) = UsesEarlier c × UsesEarlier a × UsesEarlier b
  UsesEarlier (set ms) = MembersUseEarlier ms
  UsesEarlier (record_of fs) = FieldsUseEarlier fs
  UsesEarlier (call name ms) = IsTrue (bytes_eq name (codes "decimal")) × (count_of ms ≡ 1) × MembersUseEarlier ms
  UsesEarlier _ = Unit {0}

  -- The links of a chain use only earlier forms (own).
  pub LinksUseEarlier : Links → Type 0
  LinksUseEarlier no_links = Unit {0}
  LinksUseEarlier (operand sign a ls) = UsesEarlier a × LinksUseEarlier ls
  LinksUseEarlier (attribute c ls) = LinksUseEarlier ls
  LinksUseEarlier (method name ms ls) = IsSome (earlier_method_of name) × (count_of ms ≡ 1) × MembersUseEarlier ms × LinksUseEarlier ls

  -- Members or arguments use only earlier forms (own).
  pub MembersUseEarlier : Members → Type 0
  MembersUseEarlier no_members = Unit {0}
  MembersUseEarlier (member a ms) = UsesEarlier a × MembersUseEarlier ms

  -- The entries of a record use only earlier forms (own).
  pub FieldsUseEarlier : Fields → Type 0
  FieldsUseEarlier no_fields = Unit {0}
  FieldsUseEarlier (field key a fs) = UsesEarlier a × FieldsUseEarlier fs

-- The side condition concerns neither functions nor methods (own).
abbrev pub IsOfNoCall : SideCondition → Type 0
IsOfNoCall Names = ⊥
IsOfNoCall Counts = ⊥
IsOfNoCall _ = Unit {0}

-- The size of the condition that the policy of a statement had (own).
abbrev pub earlier_size : StatementTree → Size
earlier_size s = size_of (condition_of (earlier_policy [] s))

-- A statement was within the limits: its conditions used only earlier forms, it kept each side condition that concerns no
-- calls, and its condition was neither too high nor too large (own).
pub record WasWithinLimits (s : StatementTree) : Type 0 where
  pub calls : All (λ c. UsesEarlier c.body) s.conditions
  pub others : (c : SideCondition) → IsOfNoCall c → KeepsStatement Profile c s
  pub low : (earlier_size s).height ≤ max_height
  pub small : (earlier_size s).nodes ≤ max_nodes

-- The text has tokens, which the earlier grammar reads as statements, each of which was within the limits and had an id of its
-- own, and this was the set of their policies and templates (Cedar language reference, grammar; policies).
pub record IsEarlierPolicyText (source : List ℕ) (set : PolicySetTree) : Type 0 where
  pub tokens : Marks
  pub are_tokens : IsMarked source tokens
  pub statements : List StatementTree
  pub reading : EarlierStatements (suc max_open) tokens statements []
  pub limits : All WasWithinLimits statements
  pub meaning : set ≡ earlier_entered no_policies 0 statements
  pub distinct : AreDistinct (ids_from 0 statements)
