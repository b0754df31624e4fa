-- What a function that reads from tokens ensures: it gives what the grammar gives, unless memory runs out.
use Rattle.std.specs.Prelude.{◌≡◌, Result, Ok, Err}
use Rattle.cedar_schema_text.specs.declared.fault.SchemaTextFault.{SchemaTextFault}
use Rattle.cedar_schema_text.specs.declared.fault.SchemaTextFault.TheVariants as f
use Rattle.cedar_schema_text.specs.Marks.{Marks}
use Rattle.cedar_schema_text.specs.Reading.{Outcome}

-- The refusal is that of the reading. Out of memory says nothing about it.
abbrev pub Refuses : {A : Type 0} → Result A SchemaTextFault → SchemaTextFault → Type 0
Refuses o f.OutOfMemory = Unit {0}
Refuses o (f.Syntax at) = o ≡ Err (f.Syntax at)
Refuses o (f.Twice at) = o ≡ Err (f.Twice at)

-- The answer, as contracts see it, and the tokens that are left are those of the reading, or the refusal is.
abbrev pub Reads : {A B : Type 0} → (B → A) → Outcome A → Result B SchemaTextFault → Marks → Type 0
Reads view o (Ok b) new = o ≡ Ok (view b, new)
Reads view o (Err fault) new = Refuses o fault

-- What is left of what the function changed, and the tokens that are left, are those of the reading, or the refusal is.
abbrev pub Leaves : {A B : Type 0} → Outcome A → Result B SchemaTextFault → A → Marks → Type 0
Leaves o (Ok b) a new = o ≡ Ok (a, new)
Leaves o (Err fault) a new = Refuses o fault

-- The answer of a function that reads no tokens is this one, or the refusal is.
abbrev pub Gives : {A B : Type 0} → (B → A) → Result A SchemaTextFault → Result B SchemaTextFault → Type 0
Gives view o (Ok b) = o ≡ Ok (view b)
Gives view o (Err fault) = Refuses o fault

-- What is left of what the function changed is this, or the refusal is.
abbrev pub Makes : {A B : Type 0} → Result A SchemaTextFault → Result B SchemaTextFault → A → Type 0
Makes o (Ok b) a = o ≡ Ok a
Makes o (Err fault) a = Refuses o fault

-- The text is refused for a fault that is there, or memory ran out.
abbrev pub IsRefusedFor : (SchemaTextFault → Type 0) → SchemaTextFault → Type 0
IsRefusedFor there f.OutOfMemory = Unit {0}
IsRefusedFor there fault = there fault
