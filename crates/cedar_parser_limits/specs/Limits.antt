-- What an expression must keep beside the grammar: side conditions, and the limits of a condition (own).
use Rattle.std.specs.Prelude.{ℕ, Bool, true, suc, ◌+◌, ◌<◌, ◌≤◌, ◌^◌, ◌≡◌, max, List, [], ◌∷◌, Option, Some, None, IsSome, option_map, if◌then◌else◌}
use Rattle.cedar_ast_expressions.specs.Expression as e
use Rattle.cedar_ast_expressions.specs.Expression.{Expression, Expressions, Entries}
use Rattle.cedar_ast_expressions.specs.Keys.{AreDistinct}
use Rattle.cedar_parser_limits.specs.declared.side_condition.SideCondition.{SideCondition}
use Rattle.cedar_parser_limits.specs.declared.side_condition.SideCondition.TheVariants.{Strings, Numbers, Keys, Names, Counts, Slots}
use Rattle.cedar_parser_limits.specs.declared.functions.Method.{Method}
use Rattle.cedar_parser_limits.specs.declared.functions.Method.TheVariants.{IsEmpty, Unary, Binary}
use Rattle.cedar_ast_expressions.specs.declared.operator.BinaryOperator.{BinaryOperator}
use Rattle.cedar_ast_expressions.specs.declared.operator.BinaryOperator.TheVariants.{Call}
use Rattle.cedar_parser_limits.specs.declared.size.Size.{Size}
use Rattle.cedar_parser_tokens.specs.Content.{Content}
use Rattle.cedar_parser_tree.specs.Written.{Written, number, negative, text, entity, slot, group, not, negated, relation, has, like, is, is_in, chain, choice, set, record_of, call, Links, no_links, operand, attribute, method, Members, no_members, member, Fields, no_fields, field}
use Rattle.cedar_ext.specs.Extensions.{constructor_in, constructor_named}
use Rattle.cedar_ext.specs.Methods.{has_method}
use Rattle.cedar_ext.specs.UnaryMethods.{has_unary}
use Rattle.cedar_ext.specs.declared.language.Language.{Language}
use Rattle.cedar_parser_limits.specs.Meaning.{method_of}

-- ---- side conditions

-- A string outside a pattern denotes a string value, so it has no `\*` (Cedar language reference, operators: like).
abbrev pub Stands : SideCondition → Content → Type 0
Stands Strings c = IsSome c
Stands _ c = Unit {0}

-- A number is at most 9223372036854775807 (Cedar language reference, data types: Long).
abbrev pub Fits : SideCondition → ℕ → Type 0
Fits Numbers n = n < 2 ^ 63
Fits _ n = Unit {0}

-- A number after a minus sign is at most 9223372036854775808 (Cedar language reference, data types: Long).
abbrev pub FitsNegative : SideCondition → ℕ → Type 0
FitsNegative Numbers n = n ≤ 2 ^ 63
FitsNegative _ n = Unit {0}

-- Whether a language has an operator: it has each that is not a method of an extension type (Cedar language reference,
-- functions).
abbrev pub has_operator : Language → BinaryOperator → Bool
has_operator l (Call named) = has_method l named
has_operator l _ = true

-- Whether a language has a method (Cedar language reference, functions).
abbrev pub has_meaning : Language → Method → Bool
has_meaning l IsEmpty = true
has_meaning l (Unary named) = has_unary l named
has_meaning l (Binary op) = has_operator l op

-- The method, if the language has it (own).
abbrev pub only_in : Language → Option Method → Option Method
only_in l None = None
only_in l (Some m) = if has_meaning l m then Some m else None

-- The method of this name in a language (Cedar language reference, functions).
abbrev pub method_in : Language → List ℕ → Option Method
method_in l name = only_in l (method_of name)

-- There is a function or a method of the name (Cedar language reference, functions).
abbrev pub IsKnown : {A : Type 0} → SideCondition → Option A → Type 0
IsKnown Names o = IsSome o
IsKnown _ o = Unit {0}

-- How many arguments there are (own).
abbrev pub count_of : Members → ℕ
count_of no_members = 0
count_of (member a ms) = suc (count_of ms)

-- How many arguments a method takes (Cedar language reference, functions).
abbrev pub arity_of : Method → ℕ
arity_of IsEmpty = 0
arity_of (Unary named) = 0
arity_of (Binary op) = 1

-- How many arguments the function of a name takes, if there is such a function (Cedar language reference, functions).
abbrev pub function_arity : List ℕ → Option ℕ
function_arity name = option_map (λ ty. 1) (constructor_named name)

-- How many arguments the method of a name takes, if there is such a method (Cedar language reference, functions).
abbrev pub method_arity : List ℕ → Option ℕ
method_arity name = option_map arity_of (method_of name)

-- A function or a method has as many arguments as it takes, where there is one of its name (Cedar language reference,
-- functions).
abbrev pub HasArity : SideCondition → Option ℕ → Members → Type 0
HasArity Counts (Some n) ms = count_of ms ≡ n
HasArity _ arity ms = Unit {0}

-- The keys of a record that denote strings, in order (Cedar language reference, data types: Record).
abbrev pub keys_in : Fields → List (List ℕ)
keys_in no_fields = []
keys_in (field None a fs) = keys_in fs
keys_in (field (Some key) a fs) = key ∷ keys_in fs

-- No two keys of a record are equal (Cedar language reference, data types: Record).
abbrev pub HasDistinctKeys : SideCondition → Fields → Type 0
HasDistinctKeys Keys fs = AreDistinct (keys_in fs)
HasDistinctKeys _ fs = Unit {0}

-- There is no slot in a condition (Cedar language reference, policy templates).
abbrev pub HasNoSlot : SideCondition → Type 0
HasNoSlot Slots = ⊥
HasNoSlot _ = Unit {0}

abbrev mutual
  -- An expression keeps a side condition of a language where each part of it does (own).
  pub Keeps : Language → SideCondition → Written → Type 0
  Keeps l c (number n) = Fits c n
  Keeps l c (negative n) = FitsNegative c n
  Keeps l c (text s) = Stands c s
  Keeps l c (entity u) = Stands c u.id
  Keeps l c (slot x) = HasNoSlot c
  Keeps l c (group a) = Keeps l c a
  Keeps l c (not a) = Keeps l c a
  Keeps l c (negated a) = Keeps l c a
  Keeps l c (relation sign a b) = Keeps l c a × Keeps l c b
  Keeps l c (has a s more) = Keeps l c a × Stands c s
  Keeps l c (like a p) = Keeps l c a
  Keeps l c (is a ty) = Keeps l c a
  Keeps l c (is_in a ty b) = Keeps l c a × Keeps l c b
  Keeps l c (chain a ls) = Keeps l c a × KeepLinks l c ls
  Keeps l c (choice q a b) = Keeps l c q × Keeps l c a × Keeps l c b
  Keeps l c (set ms) = KeepMembers l c ms
  Keeps l c (record_of fs) = HasDistinctKeys c fs × KeepFields l c fs
  Keeps l c (call name ms) = IsKnown c (constructor_in l name) × HasArity c (function_arity name) ms × KeepMembers l c ms
  Keeps l c _ = Unit {0}

  -- The links of a chain keep a side condition where each of them does (own).
  pub KeepLinks : Language → SideCondition → Links → Type 0
  KeepLinks l c no_links = Unit {0}
  KeepLinks l c (operand sign a ls) = Keeps l c a × KeepLinks l c ls
  KeepLinks l c (attribute s ls) = Stands c s × KeepLinks l c ls
  KeepLinks l c (method name ms ls) = (IsKnown c (method_in l name) × HasArity c (method_arity name) ms × KeepMembers l c ms) × KeepLinks l c ls

  -- Members or arguments keep a side condition where each of them does (own).
  pub KeepMembers : Language → SideCondition → Members → Type 0
  KeepMembers l c no_members = Unit {0}
  KeepMembers l c (member a ms) = Keeps l c a × KeepMembers l c ms

  -- The entries of a record keep a side condition where each key and each value does (own).
  pub KeepFields : Language → SideCondition → Fields → Type 0
  KeepFields l c no_fields = Unit {0}
  KeepFields l c (field key a fs) = (Stands c key × Keeps l c a) × KeepFields l c fs

-- ---- sizes

-- The size of an empty list of trees (own).
abbrev pub nothing : Size
nothing = record { nodes = 0; height = 0 }

-- The size of two trees beside one another: the sum of their nodes and the greater height (own).
abbrev pub both : Size → Size → Size
both a b = record { nodes = a.nodes + b.nodes; height = max a.height b.height }

-- The size of one node with a tree below it (own).
abbrev pub above : Size → Size
above a = record { nodes = suc a.nodes; height = suc a.height }

-- The size of one node with nothing below it (own).
abbrev pub leaf : Size
leaf = record { nodes = 1; height = 1 }

-- The size of one node with two trees below it (own).
abbrev pub above_both : Size → Size → Size
above_both a b = record { nodes = suc (a.nodes + b.nodes); height = suc (max a.height b.height) }

abbrev mutual
  -- The size of an expression: how many nodes its tree has, and how many are on its longest path down (own).
  pub size_of : Expression → Size
  size_of (e.literal d) = leaf
  size_of (e.variable x) = leaf
  size_of (e.and a b) = above_both (size_of a) (size_of b)
  size_of (e.or a b) = above_both (size_of a) (size_of b)
  size_of (e.if_else c a b) = above_both (size_of c) (both (size_of a) (size_of b))
  size_of (e.unary op a) = above (size_of a)
  size_of (e.binary op a b) = above_both (size_of a) (size_of b)
  size_of (e.set_with es) = above (size_of_all es)
  size_of (e.record_with es) = above (size_of_entries es)

  -- The size of the members of a set beside one another (own).
  pub size_of_all : Expressions → Size
  size_of_all e.no_more = nothing
  size_of_all (e.and_then a es) = both (size_of a) (size_of_all es)

  -- The size of the values of a record beside one another (own).
  pub size_of_entries : Entries → Size
  size_of_entries e.no_entries = nothing
  size_of_entries (e.entry key a es) = both (size_of a) (size_of_entries es)

-- The greatest height of a condition (own).
abbrev pub max_height : ℕ
max_height = 2000

-- The greatest count of nodes of a condition (own).
abbrev pub max_nodes : ℕ
max_nodes = 100000
