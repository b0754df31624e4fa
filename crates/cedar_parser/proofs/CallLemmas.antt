-- As many expressions are made of arguments as there are arguments.
use Rattle.std.proofs.Common.{◌≡◌, ℕ, suc, List, [], ◌∷◌, Option, Some, None, IsSome, length, refl, sym, ap, subst, ◌∙◌, option_map}
use Rattle.cedar_ext.specs.Extensions.{in_language}
use Rattle.cedar_ext.specs.declared.language.Language.TheVariants.{Cedar4}
use Rattle.cedar_ext.specs.declared.extension.ExtensionType.{ExtensionType}
use Rattle.cedar_ast_expressions.specs.Expression as e
use Rattle.cedar_ast_expressions.specs.Expression.{Expression, Expressions, expressions_of}
use Rattle.cedar_parser_tree.specs.Written.{Members, no_members, member}
use Rattle.cedar_parser_limits.specs.declared.functions.Method.{Method}
use Rattle.cedar_parser_limits.specs.declared.side_condition.SideCondition.{SideCondition}
use Rattle.cedar_parser_limits.specs.declared.side_condition.SideCondition.TheVariants.{Strings, Numbers, Keys, Names, Counts, Slots}
use Rattle.cedar_parser_limits.specs.Meaning.{to_expressions}
use Rattle.cedar_parser_limits.specs.Limits.{count_of, arity_of, HasArity}
use Rattle.cedar_parser.specs.Private.Kept.{Every}

-- how many expressions there are
abbrev count : Expressions → ℕ
count e.no_more = 0
count (e.and_then a es) = suc (count es)

count_list : (xs : List Expression) → count (expressions_of xs) ≡ length xs
count_list [] = refl
count_list (x ∷ xs) = ap suc (count_list xs)

count_members : (ms : Members) → count (to_expressions ms) ≡ count_of ms
count_members no_members = refl
count_members (member a ms) = ap suc (count_members ms)

pub length_count : (xs : List Expression) (ms : Members) → expressions_of xs ≡ to_expressions ms → length xs ≡ count_of ms
length_count xs ms h = sym (count_list xs) ∙ ap count h ∙ count_members ms

-- a method has as many arguments as it takes
pub method_arguments : (o : Option Method) (m : Method) (ms : Members) (xs : List Expression) → o ≡ Some m → HasArity Counts (option_map arity_of o) ms → expressions_of xs ≡ to_expressions ms
    → length xs ≡ arity_of m
method_arguments o m ms xs is h q = length_count xs ms q ∙ subst (λ (p : Option Method). HasArity Counts (option_map arity_of p) ms) is h

-- a function of Cedar 4 is a function
pub known_named : (o : Option ExtensionType) → IsSome (in_language Cedar4 o) → IsSome o
known_named None h = absurd cc
known_named (Some ty) h = refl

-- a function has one argument
pub function_argument : (o : Option ExtensionType) (ms : Members) (xs : List Expression) → IsSome o → HasArity Counts (option_map (λ f. 1) o) ms → expressions_of xs ≡ to_expressions ms → length xs ≡ 1
function_argument None ms xs known h q = absurd cc
function_argument (Some op) ms xs known h q = length_count xs ms q ∙ h

-- what follows of each side condition follows of all
pub each : (P Q : SideCondition → Type 0) → ((s : SideCondition) → P s → Q s) → Every P → Every Q
each P Q f h = (f Numbers h.0, f Keys h.1, f Strings h.2, f Names h.3, f Counts h.4, f Slots h.5)
