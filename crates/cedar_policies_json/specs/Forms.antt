-- The forms of expressions, by the one key that each has (Cedar documentation, JSON policy format: JsonExpr objects).
use Rattle.std.specs.Prelude.{ℕ, List, Option, Some, None, codes, if◌then◌else◌}
use Rattle.std.specs.Str.{bytes_eq}
use Rattle.cedar_ast_expressions.specs.declared.variable.Variable.{Variable}
use Rattle.cedar_ast_expressions.specs.declared.variable.Variable.TheVariants.{Principal, Action, Resource, Context}
use Rattle.cedar_parser_tree.specs.declared.sign.ChainSign.TheVariants.{Or, And, Plus, Minus, Times}
use Rattle.cedar_parser_tree.specs.declared.sign.RelationSign.TheVariants.{Less, LessEqual, Greater, GreaterEqual, Equal, NotEqual, In}
use Rattle.cedar_policies_json.specs.declared.form.Form.{Form}
use Rattle.cedar_policies_json.specs.declared.form.Form.TheVariants.{Value, Variable as VariableForm, Slot, One, Two, Attribute, Like, Is, If, Set, Record, Call}
use Rattle.cedar_policies_json.specs.declared.form.OneForm.TheVariants.{Not, Negated, Empty}
use Rattle.cedar_policies_json.specs.declared.form.TwoForm.TheVariants.{Relation, Chain, Method}
use Rattle.cedar_policies_json.specs.declared.form.AttributeForm.TheVariants.{Has, Get}

-- The form of an operator between two operands (Cedar documentation, JSON policy format: binary operators).
unfoldable pub two_named : List ℕ → Option Form
two_named k =
    if bytes_eq k (codes "==") then Some (Two (Relation Equal)) else (if bytes_eq k (codes "!=") then Some (Two (Relation NotEqual)) else (
    if bytes_eq k (codes "<") then Some (Two (Relation Less)) else (if bytes_eq k (codes "<=") then Some (Two (Relation LessEqual)) else (
    if bytes_eq k (codes ">") then Some (Two (Relation Greater)) else (if bytes_eq k (codes ">=") then Some (Two (Relation GreaterEqual)) else (
    if bytes_eq k (codes "in") then Some (Two (Relation In)) else (if bytes_eq k (codes "&&") then Some (Two (Chain And)) else (
    if bytes_eq k (codes "||") then Some (Two (Chain Or)) else (if bytes_eq k (codes "+") then Some (Two (Chain Plus)) else (
    if bytes_eq k (codes "-") then Some (Two (Chain Minus)) else (if bytes_eq k (codes "*") then Some (Two (Chain Times)) else None)))))))))))

-- The form of a method that has an object of operands: of a set, or of the tags of an entity (Cedar documentation, JSON policy
-- format: contains, containsAll, containsAny, isEmpty, getTag, hasTag).
unfoldable pub method_named : List ℕ → Option Form
method_named k =
    if bytes_eq k (codes "contains") then Some (Two Method) else (if bytes_eq k (codes "containsAll") then Some (Two Method) else (
    if bytes_eq k (codes "containsAny") then Some (Two Method) else (if bytes_eq k (codes "getTag") then Some (Two Method) else (
    if bytes_eq k (codes "hasTag") then Some (Two Method) else (if bytes_eq k (codes "isEmpty") then Some (One Empty) else None)))))

-- The form of each other key: one that is none of these is the name of a function or a method of an extension type (Cedar
-- documentation, JSON policy format: any other key).
unfoldable pub other_named : List ℕ → Form
other_named k =
    if bytes_eq k (codes "Value") then Value else (if bytes_eq k (codes "Var") then VariableForm else (
    if bytes_eq k (codes "Slot") then Slot else (if bytes_eq k (codes "!") then One Not else (
    if bytes_eq k (codes "neg") then One Negated else (if bytes_eq k (codes "has") then Attribute Has else (
    if bytes_eq k (codes ".") then Attribute Get else (if bytes_eq k (codes "like") then Like else (
    if bytes_eq k (codes "is") then Is else (if bytes_eq k (codes "if-then-else") then If else (
    if bytes_eq k (codes "Set") then Set else (if bytes_eq k (codes "Record") then Record else Call)))))))))))

-- The form where there is one, and else another (own).
abbrev pub form_or : Option Form → Form → Form
form_or (Some form) other = form
form_or None other = other

-- The form that a key names (Cedar documentation, JSON policy format: JsonExpr objects).
abbrev pub form_named : List ℕ → Form
form_named k = form_or (two_named k) (form_or (method_named k) (other_named k))

-- The variable that a string names (Cedar documentation, JSON policy format: Var).
unfoldable pub variable_named : List ℕ → Option Variable
variable_named s =
    if bytes_eq s (codes "principal") then Some Principal else (if bytes_eq s (codes "action") then Some Action else (
    if bytes_eq s (codes "resource") then Some Resource else (if bytes_eq s (codes "context") then Some Context else None)))

-- The variable of the slot that a string names (Cedar documentation, JSON policy format: slot).
unfoldable pub slot_named : List ℕ → Option Variable
slot_named s = if bytes_eq s (codes "?principal") then Some Principal else (if bytes_eq s (codes "?resource") then Some Resource else None)
