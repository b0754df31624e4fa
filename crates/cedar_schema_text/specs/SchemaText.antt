-- Which JSON a schema text denotes, and why a text denotes none (Cedar documentation, schema grammar).
use Rattle.std.specs.Prelude.{◌≡◌, ℕ, List, Result, Ok, Err, length, ◌⊎◌}
use Rattle.serde_json.specs.Data.{Data}
use Rattle.serde_json.specs.View.{view}
use Rattle.serde_json.specs.declared.value.Value.{Value}
use Rattle.cedar_schema_text.specs.declared.fault.SchemaTextFault.{SchemaTextFault}
use Rattle.cedar_schema_text.specs.declared.fault.SchemaTextFault.TheVariants as f
use Rattle.cedar_schema_text.specs.Marks.{Marks}
use Rattle.cedar_schema_text.specs.Tokens.{cut}
use Rattle.cedar_schema_text.specs.Strings.{AreRead, HasBadString, ended}
use Rattle.cedar_schema_text.specs.Grammar.{schema}

-- The text has these tokens, and a sign for its end after them (Cedar documentation, schema grammar).
abbrev pub HasTokens : List ℕ → Marks → Type 0
HasTokens source ts = (ps : Marks) × (ms : Marks) × (cut source ≡ Ok ps) × AreRead ps ms × (ts ≡ ended (length source) ms)

-- The text denotes this JSON of a schema: it is what the grammar reads from the tokens (Cedar documentation, schema grammar).
abbrev pub IsSchemaText : List ℕ → Data → Type 0
IsSchemaText source d = (ts : Marks) × (us : Marks) × HasTokens source ts × (schema ts ≡ Ok (d, us))

-- The text has no tokens: where the refusal is, none begins, or a string denotes no text (Cedar documentation, schema grammar).
abbrev pub LacksTokens : List ℕ → SchemaTextFault → Type 0
LacksTokens source fault = (cut source ≡ Err fault) ⊎ ((ps : Marks) × (cut source ≡ Ok ps) × HasBadString ps fault)

-- The text is refused: it has no tokens, or the grammar refuses them. Out of memory says nothing about the text (own).
abbrev pub HasFault : List ℕ → SchemaTextFault → Type 0
HasFault source f.OutOfMemory = Unit {0}
HasFault source fault = LacksTokens source fault ⊎ ((ts : Marks) × HasTokens source ts × (schema ts ≡ Err fault))

-- The answer is this JSON, or memory ran out (own).
abbrev pub HasJson : Data → Result Value SchemaTextFault → Type 0
HasJson d (Ok v) = view v ≡ d
HasJson d (Err f.OutOfMemory) = Unit {0}
HasJson d (Err _) = ⊥
