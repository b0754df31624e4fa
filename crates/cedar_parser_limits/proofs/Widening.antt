-- What keeps the side conditions of a language keeps those of Cedar 4, which has each function and each method.
use Rattle.std.proofs.Common.{◌≡◌, refl, ℕ, List, [], ◌∷◌, Bool, true, false, cond, Option, Some, None, IsSome}
use Rattle.cedar_ext.specs.Extensions.{constructor_named, constructor_in, in_language}
use Rattle.cedar_ext.specs.declared.extension.ExtensionType.{ExtensionType}
use Rattle.cedar_ext.specs.declared.language.Language.{Language}
use Rattle.cedar_ext.specs.declared.language.Language.TheVariants.{Cedar4}
use Rattle.cedar_ast_expressions.specs.declared.operator.BinaryOperator.{BinaryOperator}
use Rattle.cedar_ast_expressions.specs.declared.operator.BinaryOperator.TheVariants.{Call}
use Rattle.cedar_parser_tree.specs.declared.written_statement.WrittenCondition.{WrittenCondition}
use Rattle.cedar_parser_tree.specs.Written.{Written, truth, number, negative, text, entity, variable, slot, group, not, negated, relation, has, like, is, is_in, chain, choice, set, record_of, call, Links, no_links, operand, attribute, method, Members, no_members, member, Fields, no_fields, field}
use Rattle.cedar_parser_tree.specs.StatementTree.{StatementTree}
use Rattle.cedar_parser_limits.specs.declared.functions.Method.{Method}
use Rattle.cedar_parser_limits.specs.declared.functions.Method.TheVariants.{IsEmpty, Unary, Binary}
use Rattle.cedar_parser_limits.specs.declared.side_condition.SideCondition.{SideCondition}
use Rattle.cedar_parser_limits.specs.declared.side_condition.SideCondition.TheVariants.{Names}
use Rattle.cedar_parser_limits.specs.Meaning.{method_of}
use Rattle.cedar_parser_limits.specs.Limits.{IsKnown, Keeps, KeepLinks, KeepMembers, KeepFields, has_meaning, has_operator, method_in, only_in}
use Rattle.cedar_parser_limits.specs.StatementLimits.{KeepConditions, KeepsStatement, IsWithinLimits}

has_type : (l : Language) (o : Option ExtensionType) → IsSome (in_language l o) → IsSome (in_language Cedar4 o)
has_type l None h = absurd cc
has_type l (Some ty) h = refl

operator_is_there : (op : BinaryOperator) → has_operator Cedar4 op ≡ true
operator_is_there (Call named) = refl
operator_is_there _ = refl

method_is_there : (m : Method) → has_meaning Cedar4 m ≡ true
method_is_there IsEmpty = refl
method_is_there (Unary named) = refl
method_is_there (Binary op) = operator_is_there op

has_method : (l : Language) (o : Option Method) → IsSome (only_in l o) → IsSome (only_in Cedar4 o)
has_method l None h = absurd cc
has_method l (Some m) h = by (has_meaning Cedar4 m) (method_is_there m)
  where
    by : (b : Bool) → b ≡ true → IsSome (cond b (Some m) None)
    by true e = refl
    by false e = absurd cc

function_known : (l : Language) (c : SideCondition) (name : List ℕ) → IsKnown c (constructor_in l name) → IsKnown c (constructor_in Cedar4 name)
function_known l Names name h = has_type l (constructor_named name) h
function_known l _ name h = tt

method_known : (l : Language) (c : SideCondition) (name : List ℕ) → IsKnown c (method_in l name) → IsKnown c (method_in Cedar4 name)
method_known l Names name h = has_method l (method_of name) h
method_known l _ name h = tt

mutual
  keeps : (l : Language) (c : SideCondition) (w : Written) → Keeps l c w → Keeps Cedar4 c w
  keeps l c (truth b) h = tt
  keeps l c (number n) h = h
  keeps l c (negative n) h = h
  keeps l c (text s) h = h
  keeps l c (entity x) h = h
  keeps l c (variable x) h = tt
  keeps l c (slot x) h = h
  keeps l c (group a) h = keeps l c a h
  keeps l c (not a) h = keeps l c a h
  keeps l c (negated a) h = keeps l c a h
  keeps l c (relation sign a b) h = (keeps l c a h.0, keeps l c b h.1)
  keeps l c (has a s more) h = (keeps l c a h.0, h.1)
  keeps l c (like a p) h = keeps l c a h
  keeps l c (is a ty) h = keeps l c a h
  keeps l c (is_in a ty b) h = (keeps l c a h.0, keeps l c b h.1)
  keeps l c (chain a ls) h = (keeps l c a h.0, keep_links l c ls h.1)
  keeps l c (choice q a b) h = (keeps l c q h.0, keeps l c a h.1, keeps l c b h.2)
  keeps l c (set ms) h = keep_members l c ms h
  keeps l c (record_of fs) h = (h.0, keep_fields l c fs h.1)
  keeps l c (call name ms) h = (function_known l c name h.0, h.1, keep_members l c ms h.2)

  keep_links : (l : Language) (c : SideCondition) (ls : Links) → KeepLinks l c ls → KeepLinks Cedar4 c ls
  keep_links l c no_links h = tt
  keep_links l c (operand sign a ls) h = (keeps l c a h.0, keep_links l c ls h.1)
  keep_links l c (attribute s ls) h = (h.0, keep_links l c ls h.1)
  keep_links l c (method name ms ls) h = ((method_known l c name h.0.0, h.0.1, keep_members l c ms h.0.2), keep_links l c ls h.1)

  keep_members : (l : Language) (c : SideCondition) (ms : Members) → KeepMembers l c ms → KeepMembers Cedar4 c ms
  keep_members l c no_members h = tt
  keep_members l c (member a ms) h = (keeps l c a h.0, keep_members l c ms h.1)

  keep_fields : (l : Language) (c : SideCondition) (fs : Fields) → KeepFields l c fs → KeepFields Cedar4 c fs
  keep_fields l c no_fields h = tt
  keep_fields l c (field key a fs) h = ((h.0.0, keeps l c a h.0.1), keep_fields l c fs h.1)

keep_conditions : (l : Language) (c : SideCondition) (qs : List WrittenCondition) → KeepConditions l c qs → KeepConditions Cedar4 c qs
keep_conditions l c [] h = tt
keep_conditions l c (q ∷ qs) h = (keeps l c q.body h.0, keep_conditions l c qs h.1)

keeps_statement : (l : Language) (c : SideCondition) (s : StatementTree) → KeepsStatement l c s → KeepsStatement Cedar4 c s
keeps_statement l c s h = record {
  names = h.names;
  annotations = h.annotations;
  principal = h.principal;
  action = h.action;
  resource = h.resource;
  conditions = keep_conditions l c s.conditions h.conditions;
}

-- a statement that is within the limits of a language is within those of Cedar 4
pub within_widest : (l : Language) (s : StatementTree) → IsWithinLimits l s → IsWithinLimits Cedar4 s
within_widest l s h = record { keeps = λ c. keeps_statement l c s (h.keeps c); low = h.low; small = h.small }
