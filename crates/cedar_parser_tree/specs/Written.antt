-- An expression as it is written: chains as lists, brackets kept, nothing expanded (Cedar language reference, grammar: Expr).
use Rattle.std.specs.Prelude.{ℕ, suc, ◌+◌, Bool, List, [], ◌∷◌}
use Rattle.cedar_parser_tokens.specs.Content.{Content}
use Rattle.cedar_ext.specs.declared.pattern.Element.{Element}
use Rattle.cedar_ast_expressions.specs.declared.variable.Variable.{Variable}
use Rattle.cedar_parser_tokens.specs.declared.content.WrittenUid.{WrittenUid}
use Rattle.cedar_parser_tree.specs.declared.sign.ChainSign.{ChainSign}
use Rattle.cedar_parser_tree.specs.declared.sign.RelationSign.{RelationSign}

mutual
  -- An expression as it is written, form by form of the grammar (Cedar language reference, grammar: Expr).
  pub data Written : Type 0 where
    truth : Bool → Written
    number : ℕ → Written
    -- a number with the sign right before it
    negative : ℕ → Written
    text : Content → Written
    entity : WrittenUid → Written
    variable : Variable → Written
    slot : Variable → Written
    group : Written → Written
    not : Written → Written
    negated : Written → Written
    relation : RelationSign → Written → Written → Written
    -- `has`: the first attribute, and those that follow it with points between them
    has : Written → (first : Content) → (more : List (List ℕ)) → Written
    like : Written → List Element → Written
    is : Written → (ty : List ℕ) → Written
    is_in : Written → (ty : List ℕ) → Written → Written
    -- a first operand, and then what follows it
    chain : Written → Links → Written
    choice : (condition if_true if_false : Written) → Written
    set : Members → Written
    record_of : Fields → Written
    call : (name : List ℕ) → Members → Written

  -- What comes after the first operand of a chain, in order: operands each with its sign, attributes and methods (Cedar
  -- language reference, grammar: Or, And, Add, Mult, Member).
  pub data Links : Type 0 where
    no_links : Links
    operand : ChainSign → Written → Links → Links
    attribute : Content → Links → Links
    method : (name : List ℕ) → Members → Links → Links

  -- The members of a set or the arguments of a call, in order (Cedar language reference, grammar: ExprList).
  pub data Members : Type 0 where
    no_members : Members
    member : Written → Members → Members

  -- The entries of a record, in order, each a key with its value (Cedar language reference, grammar: RecInits).
  pub data Fields : Type 0 where
    no_fields : Fields
    field : (key : Content) → Written → Fields → Fields

-- The members that a list of expressions denotes (own).
abbrev pub members_of : List Written → Members
members_of [] = no_members
members_of (a ∷ xs) = member a (members_of xs)

-- A minus sign before an expression: before a number it makes one literal, and it negates each other expression (Cedar language
-- reference, grammar: Unary).
abbrev pub minus : Written → Written
minus (number n) = negative n
minus a = negated a

abbrev mutual
  -- How many parts an expression as written has. Recursion over it ends because this number falls (own).
  pub parts : Written → ℕ
  parts (truth b) = 1
  parts (number n) = 1
  parts (negative n) = 1
  parts (text c) = 1
  parts (entity u) = 1
  parts (variable x) = 1
  parts (slot x) = 1
  parts (group a) = suc (parts a)
  parts (not a) = suc (parts a)
  parts (negated a) = suc (parts a)
  parts (relation sign a b) = suc (parts a + parts b)
  parts (has a c more) = suc (parts a)
  parts (like a p) = suc (parts a)
  parts (is a ty) = suc (parts a)
  parts (is_in a ty b) = suc (parts a + parts b)
  parts (chain a ls) = suc (parts a + link_parts ls)
  parts (choice c a b) = suc (parts c + (parts a + parts b))
  parts (set ms) = suc (member_parts ms)
  parts (record_of fs) = suc (field_parts fs)
  parts (call name ms) = suc (member_parts ms)

  -- How many parts the links of a chain have (own).
  pub link_parts : Links → ℕ
  link_parts no_links = 0
  link_parts (operand sign a ls) = suc (parts a + link_parts ls)
  link_parts (attribute c ls) = suc (link_parts ls)
  link_parts (method name ms ls) = suc (suc (member_parts ms) + link_parts ls)

  -- How many parts members or arguments have (own).
  pub member_parts : Members → ℕ
  member_parts no_members = 0
  member_parts (member a ms) = suc (parts a + member_parts ms)

  -- How many parts the entries of a record have (own).
  pub field_parts : Fields → ℕ
  field_parts no_fields = 0
  field_parts (field key a fs) = suc (parts a + field_parts fs)
