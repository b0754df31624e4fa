-- What a function that reads an expression into a box ensures.
use Rattle.std.specs.Prelude.{◌≡◌, Result, Ok, Err}
use Rattle.std.specs.Global.{Box}
use Rattle.cedar_parser_tokens.specs.Marks.{Marks}
use Rattle.cedar_parser_tokens.specs.Contract.{Refuses}
use Rattle.cedar_parser_tokens.specs.declared.parse_fault.ParseFault.{ParseFault}
use Rattle.cedar_parser_tree.specs.Written.{Written}
use Rattle.cedar_parser_tree.specs.declared.written.Field.{Field}
use Rattle.cedar_parser_expressions.specs.declared.constructors.BoxedField.{BoxedField}
use Rattle.cedar_parser_expressions.specs.Reading.{Outcome}

-- The expression in the box and the tokens that are left are those of the reading, or the refusal is.
abbrev pub ReadsBoxed : Outcome Written → Result (Box Written) ParseFault → Marks → Type 0
ReadsBoxed o (Ok b) new = o ≡ Ok (b.value, new)
ReadsBoxed o (Err x) new = Refuses o x

-- The entry of a record whose value is in a box.
abbrev pub field_of : BoxedField → Field
field_of f = record { key = f.key; value = f.value.value }

-- The entry that is answered and the tokens that are left are those of the reading, or the refusal is.
abbrev pub ReadsField : Outcome Field → Result BoxedField ParseFault → Marks → Type 0
ReadsField o (Ok f) new = o ≡ Ok (field_of f, new)
ReadsField o (Err x) new = Refuses o x
