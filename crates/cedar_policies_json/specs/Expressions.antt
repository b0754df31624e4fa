-- The expression as it is written that a JSON denotes. Each operand is in brackets (Cedar documentation, JSON policy format: body).
use Rattle.std.specs.Prelude.{ℕ, zero, suc, ℤ, negsuc, pos, ◌==◌, Bool, List, [], ◌∷◌, ◌++◌, map, codes, Option, Some, None, option_map, option_and_then, is_some, if◌then◌else◌}
use Rattle.std.specs.Str.{bytes_eq, chars}
use Rattle.serde_json.specs.Data.{Num, unsigned, negative, float, Data, Items, no_items, item}
use Rattle.serde_json.specs.Data as json
use Rattle.serde_json.specs.Find.{get, as_str, as_array, as_object}
use Rattle.cedar_ext.specs.declared.pattern.Element.{Element}
use Rattle.cedar_ext.specs.declared.pattern.Element.TheVariants.{Character, Star}
use Rattle.cedar_conform_values.specs.Objects.{size_of, text_at}
use Rattle.cedar_parser_limits.specs.Meaning.{method_of}
use Rattle.cedar_parser_tree.specs.declared.written.Field.{Field}
use Rattle.cedar_parser_tree.specs.Written as w
use Rattle.cedar_parser_tree.specs.Written.{Written, members_of, no_members, member, no_links}
use Rattle.cedar_parser_tree.specs.WrittenKind.{fields_of}
use Rattle.cedar_policies_json.specs.declared.form.Form.{Form}
use Rattle.cedar_policies_json.specs.declared.form.Form.TheVariants as form
use Rattle.cedar_policies_json.specs.declared.form.OneForm.{OneForm}
use Rattle.cedar_policies_json.specs.declared.form.OneForm.TheVariants.{Not, Negated, Empty}
use Rattle.cedar_policies_json.specs.declared.form.TwoForm.{TwoForm}
use Rattle.cedar_policies_json.specs.declared.form.TwoForm.TheVariants.{Relation, Chain, Method}
use Rattle.cedar_policies_json.specs.declared.form.AttributeForm.{AttributeForm}
use Rattle.cedar_policies_json.specs.declared.form.AttributeForm.TheVariants.{Has, Get}
use Rattle.cedar_policies_json.specs.declared.mode.Mode.{Mode}
use Rattle.cedar_policies_json.specs.declared.mode.Mode.TheVariants.{Expression, Value}
use Rattle.cedar_policies_json.specs.Forms.{form_named, variable_named, slot_named}
use Rattle.cedar_policies_json.specs.Parts.{both, each_read, members_read, only_at, only_member, name_of, name_at, uid_read}

-- What each JSON of some kind denotes, if it denotes an expression (own).
abbrev pub Reader : Type 0
Reader = Data → Option Written

-- The entry of a record, where its value denotes an expression (Cedar documentation, JSON policy format: Record).
abbrev pub entry_read : Reader → List ℕ → Data → Option Field
entry_read f k d = option_map (λ a. record { key = Some k; value = a }) (f d)

-- A list as a set (Cedar documentation, JSON policy format: Set).
abbrev pub set_read : Reader → Data → Option Written
set_read f d = option_map (λ xs. w.set (members_of xs)) (option_and_then (each_read f) (as_array d))

-- An object as a record (Cedar documentation, JSON policy format: Record).
abbrev pub record_read : Reader → Data → Option Written
record_read f d = option_map (λ fs. w.record_of (fields_of fs)) (option_and_then (members_read (entry_read f)) (as_object d))

-- ---- calls

-- The method of the first operand, with the others as its arguments (Cedar documentation, JSON policy format: any other key).
abbrev pub method_called : List ℕ → List Written → Option Written
method_called k [] = None
method_called k (a ∷ xs) = Some (w.chain (w.group a) (w.method k (members_of xs) no_links))

-- The function of a name (Cedar documentation, JSON policy format: any other key).
abbrev pub function_called : List ℕ → List Written → Option Written
function_called k xs = option_map (λ name. w.call name (members_of xs)) (name_of k)

-- The call of what a key names: a method where there is one of this name, and else a function (Cedar documentation, JSON policy
-- format: any other key).
abbrev pub called : List ℕ → List Written → Option Written
called k xs = if is_some (method_of k) then method_called k xs else function_called k xs

-- ---- values

-- A whole number of 64 bits, with its sign. Whether it is a Long is a side condition (Cedar documentation, JSON policy format:
-- Value).
abbrev pub number_read : Num → Option Written
number_read (unsigned n) = Some (w.number n)
number_read (negative (negsuc n)) = Some (w.negative (suc n))
number_read _ = None

-- The call of a function of one string, of which the JSON gives the name at `fn` and the string at `arg` (Cedar documentation, JSON
-- policy format: `__extn`).
abbrev pub extension_read : Data → Option Written
extension_read d =
    if size_of d == 2 then option_and_then (λ p. function_called p.0 (w.text (Some p.1) ∷ [])) (both (text_at (codes "fn") d) (text_at (codes "arg") d)) else None

-- A uid, the call of a constructor, or a record. `__entity` and `__extn` are alone in their object, and `__expr` is none (Cedar
-- documentation, JSON policy format: Value, `__entity`, `__extn`).
abbrev pub object_read : Reader → Data → Option Written
object_read f d =
    if is_some (get (codes "__entity") d) then option_map w.entity (uid_read d)
    else (if is_some (get (codes "__extn") d) then option_and_then extension_read (only_at (codes "__extn") d)
    else (if is_some (get (codes "__expr") d) then None else record_read f d))

-- The literal, set or record that a JSON is (Cedar documentation, JSON policy format: Value).
abbrev pub value_read : Reader → Data → Option Written
value_read f json.null = None
value_read f (json.boolean b) = Some (w.truth b)
value_read f (json.number n) = number_read n
value_read f (json.string s) = Some (w.text (Some s))
value_read f (json.array ds) = set_read f (json.array ds)
value_read f (json.object ms) = object_read f (json.object ms)

-- ---- patterns

-- The elements of a string in a pattern: the word Wildcard (Cedar documentation, JSON policy format: like).
abbrev pub wildcard_read : List ℕ → Option (List Element)
wildcard_read s = if bytes_eq s (codes "Wildcard") then Some (Star ∷ []) else None

-- The elements of a literal: its characters (Cedar documentation, JSON policy format: like).
abbrev pub literal_read : Option Data → Option (List Element)
literal_read o = option_map (λ s. map Character (chars s)) (option_and_then as_str o)

-- The elements of a part of a pattern (Cedar documentation, JSON policy format: like).
abbrev pub part_read : Data → Option (List Element)
part_read (json.string s) = wildcard_read s
part_read d = literal_read (only_at (codes "Literal") d)

-- The elements of two parts, one after the other (own).
abbrev pub one_after : Option (List Element) → Option (List Element) → Option (List Element)
one_after (Some a) (Some b) = Some (a ++ b)
one_after _ _ = None

-- The elements of a pattern, part by part (Cedar documentation, JSON policy format: like).
unfoldable pub parts_read : Items → Option (List Element)
parts_read no_items = Some []
parts_read (item d ds) = one_after (part_read d) (parts_read ds)

-- The pattern at a key (own).
abbrev pub pattern_at : List ℕ → Data → Option (List Element)
pattern_at k d = option_and_then parts_read (option_and_then as_array (get k d))

-- ---- operators

-- A part that is not an operand of an operator (own).
abbrev pub part_at : Reader → List ℕ → Data → Option Written
part_at f k d = option_and_then f (get k d)

-- An operand, in brackets (Cedar language reference, policy grammar).
abbrev pub operand_at : Reader → List ℕ → Data → Option Written
operand_at f k d = option_map w.group (part_at f k d)

-- What is made of one operand (Cedar documentation, JSON policy format: `!`, neg, isEmpty).
abbrev pub one_of : OneForm → List ℕ → Written → Written
one_of Not k a = w.not a
one_of Negated k a = w.negated a
one_of Empty k a = w.chain a (w.method k no_members no_links)

-- What is made of two operands (Cedar documentation, JSON policy format: binary operators).
abbrev pub two_of : TwoForm → List ℕ → Written → Written → Written
two_of (Relation sign) k a b = w.relation sign a b
two_of (Chain sign) k a b = w.chain a (w.operand sign b no_links)
two_of Method k a b = w.chain a (w.method k (member b no_members) no_links)

-- What is made of an operand and the name of an attribute, which is any string (Cedar documentation, JSON policy format: has, `.`).
abbrev pub attribute_of : AttributeForm → Written → List ℕ → Written
attribute_of Has a name = w.has a (Some name) []
attribute_of Get a name = w.chain a (w.attribute (Some name) no_links)

-- An object of exactly `arg` (Cedar documentation, JSON policy format: `!`, neg, isEmpty).
abbrev pub one_read : Reader → OneForm → List ℕ → Data → Option Written
one_read f one k d = if size_of d == 1 then option_map (one_of one k) (operand_at f (codes "arg") d) else None

-- The operands of an object of exactly `left` and `right` (Cedar documentation, JSON policy format: binary operators).
abbrev pub operands_read : Reader → Data → Option (Written × Written)
operands_read f d = if size_of d == 2 then both (operand_at f (codes "left") d) (operand_at f (codes "right") d) else None

-- An operator between two operands (Cedar documentation, JSON policy format: binary operators).
abbrev pub two_read : Reader → TwoForm → List ℕ → Data → Option Written
two_read f two k d = option_map (λ p. two_of two k p.0 p.1) (operands_read f d)

-- An object of exactly `left` and `attr` (Cedar documentation, JSON policy format: has, `.`).
abbrev pub attribute_read : Reader → AttributeForm → Data → Option Written
attribute_read f attribute d =
    if size_of d == 2 then option_map (λ p. attribute_of attribute p.0 p.1) (both (operand_at f (codes "left") d) (text_at (codes "attr") d)) else None

-- An object of exactly `left` and `pattern` (Cedar documentation, JSON policy format: like).
abbrev pub like_read : Reader → Data → Option Written
like_read f d =
    if size_of d == 2 then option_map (λ p. w.like p.0 p.1) (both (operand_at f (codes "left") d) (pattern_at (codes "pattern") d)) else None

-- The operand at `left` and the name at `entity_type` (Cedar documentation, JSON policy format: is).
abbrev pub typed_read : Reader → Data → Option (Written × List ℕ)
typed_read f d = both (operand_at f (codes "left") d) (name_at (codes "entity_type") d)

-- An object of exactly `left` and `entity_type`, or of these and `in` (Cedar documentation, JSON policy format: is).
abbrev pub is_read : Reader → Data → Option Written
is_read f d =
    if size_of d == 2 then option_map (λ p. w.is p.0 p.1) (typed_read f d)
    else (if size_of d == 3 then option_map (λ p. w.is_in p.0.0 p.0.1 p.1) (both (typed_read f d) (operand_at f (codes "in") d)) else None)

-- An object of exactly `if`, `then` and `else` (Cedar documentation, JSON policy format: if-then-else).
abbrev pub choice_read : Reader → Data → Option Written
choice_read f d =
    if size_of d == 3 then option_map (λ p. w.choice p.0 p.1.0 p.1.1) (both (part_at f (codes "if") d) (both (part_at f (codes "then") d) (part_at f (codes "else") d))) else None

-- ---- all levels

-- What is at the key of a form, where f reads expressions and v reads values. A slot is refused later, since it is in a condition
-- (Cedar documentation, JSON policy format: JsonExpr objects).
abbrev pub form_read : (f v : Reader) → Form → List ℕ → Data → Option Written
form_read f v form.Value k d = v d
form_read f v form.Variable k d = option_map w.variable (option_and_then variable_named (as_str d))
form_read f v form.Slot k d = option_map w.slot (option_and_then slot_named (as_str d))
form_read f v (form.One one) k d = one_read f one k d
form_read f v (form.Two two) k d = two_read f two k d
form_read f v (form.Attribute attribute) k d = attribute_read f attribute d
form_read f v form.Like k d = like_read f d
form_read f v form.Is k d = is_read f d
form_read f v form.If k d = choice_read f d
form_read f v form.Set k d = set_read f d
form_read f v form.Record k d = record_read f d
form_read f v form.Call k d = option_and_then (called k) (option_and_then (each_read f) (as_array d))

-- The expression of an object of one key, which names its form (Cedar documentation, JSON policy format: JsonExpr objects).
abbrev pub expression_read : (f v : Reader) → Data → Option Written
expression_read f v d = option_and_then (λ p. form_read f v (form_named p.0) p.0 p.1) (option_and_then only_member (as_object d))

-- What a JSON denotes as an expression or as a value, where its parts nest less deep than the number (Cedar documentation, JSON
-- policy format: JsonExpr objects, Value).
unfoldable pub written_read : Mode → ℕ → Reader
written_read mode zero d = None
written_read Expression (suc n) d = expression_read (written_read Expression n) (written_read Value n) d
written_read Value (suc n) d = value_read (written_read Value n) d

-- How deep the parts of an expression may nest: as deep as JSON may, so no JSON that is read has deeper ones (own).
abbrev pub max_depth : ℕ
max_depth = 127

-- The expression that a JSON denotes (Cedar documentation, JSON policy format: body).
abbrev pub body_read : Reader
body_read = written_read Expression max_depth
