-- The tree that a form of the code denotes (own).
use Rattle.std.specs.Prelude.{List, [], ◌∷◌}
use Rattle.cedar_parser_tree.specs.Written as w
use Rattle.cedar_parser_tree.specs.Written.{Written, Links, no_links, Fields, no_fields, field, members_of}
use Rattle.cedar_parser_tree.specs.declared.written.Link.{Link}
use Rattle.cedar_parser_tree.specs.declared.written.Link.TheVariants.{Operand, Attribute, Method}
use Rattle.cedar_parser_tree.specs.declared.written.Field.{Field}
use Rattle.cedar_parser_tree.specs.declared.written.WrittenKind.{WrittenKind}
use Rattle.cedar_parser_tree.specs.declared.written.WrittenKind.TheVariants.{Truth, Number, Negative, Text, Entity, Variable, Slot, Group, Not, Negated, Relation, Has, Like, Is, IsIn, Chain, If, Set, Record, Call}

-- The links of a chain that a list of the code denotes (own).
abbrev pub links_of : List Link → Links
links_of [] = no_links
links_of (Operand sign a ∷ ls) = w.operand sign a (links_of ls)
links_of (Attribute c ∷ ls) = w.attribute c (links_of ls)
links_of (Method name ms ∷ ls) = w.method name (members_of ms) (links_of ls)

-- The entries of a record that a list of the code denotes (own).
abbrev pub fields_of : List Field → Fields
fields_of [] = no_fields
fields_of (f ∷ fs) = field f.key f.value (fields_of fs)

-- The expression as it is written that a form of the code denotes, its parts being trees (own).
abbrev pub written_of : WrittenKind → Written
written_of (Truth b) = w.truth b
written_of (Number start n) = w.number n
written_of (Negative start n) = w.negative n
written_of (Text c) = w.text c
written_of (Entity u) = w.entity u
written_of (Variable x) = w.variable x
written_of (Slot start x) = w.slot x
written_of (Group a) = w.group a.value
written_of (Not a) = w.not a.value
written_of (Negated a) = w.negated a.value
written_of (Relation sign a b) = w.relation sign a.value b.value
written_of (Has a path) = w.has a.value path.0 path.1
written_of (Like a p) = w.like a.value p
written_of (Is a ty) = w.is a.value ty
written_of (IsIn a ty b) = w.is_in a.value ty b.value
written_of (Chain a ls) = w.chain a.value (links_of ls.items)
written_of (If c a b) = w.choice c.value a.value b.value
written_of (Set ms) = w.set (members_of ms)
written_of (Record fs) = w.record_of (fields_of fs.items)
written_of (Call start name ms) = w.call name (members_of ms)
