-- What a schema file holds, and why it is refused.
use Rattle.std.specs.Prelude.{◌≡◌, ◌≢◌, ◌⊎◌, ◌&&◌, not, is_some, ℕ, Bool, false, List, Option, None, MatchOption}
use Rattle.std.specs.Str.{is_utf8}
use Rattle.serde_json.specs.Data.{Data}
use Rattle.base_json.specs.JsonTree.{json_of}
use Rattle.cedar_ext.specs.declared.language.Language.{Language}
use Rattle.cedar_ext.specs.declared.language.Language.TheVariants.{Profile, Cedar4}
use Rattle.cedar_schema_spec.specs.SchemaTree.{SchemaTree}
use Rattle.cedar_schema.specs.Denotes.{BytesAreRefusedWith, BytesDenote, Denotes, IsRefusedWith}
use Rattle.cedar_schema_json.specs.Numbers.{number_of}
use Rattle.cedar_schema_json.specs.declared.schema_fault.SchemaFault.{SchemaFault}
use Rattle.cedar_schema_json.specs.declared.schema_fault.SchemaFault.TheVariants.{OutOfMemory}
use Rattle.cedar_schema_text.specs.Faults as text
use Rattle.cedar_schema_text.specs.SchemaText.{IsSchemaText, HasFault}
use Rattle.cedar_schema_text.specs.declared.fault.SchemaTextFault.{SchemaTextFault}
use Rattle.cedar_parser.specs.Braces.{begins_with_brace}
use Rattle.cedar_files.specs.Format.{InFormat}
use Rattle.cedar_files.specs.declared.refusal.FileRefusal.{FileRefusal}

-- Whether a file is read in the Cedar schema syntax: in Cedar 4 one that is UTF-8 and not JSON. A file that begins with `{` is meant as
-- JSON, also where it is broken (Cedar documentation, schema grammar, JSON schema format; own).
abbrev pub is_schema_text : Language → List ℕ → Bool
is_schema_text Profile bytes = false
is_schema_text Cedar4 bytes = is_utf8 bytes && (not (begins_with_brace bytes) && not (is_some (json_of bytes)))

-- ---- what it holds

-- As a text in the Cedar schema syntax the bytes denote a JSON, and that denotes the schema (Cedar documentation, schema grammar).
abbrev pub TextDenotes : List ℕ → SchemaTree → Type 0
TextDenotes bytes s = (d : Data) × IsSchemaText bytes d × Denotes Cedar4 d s

-- The bytes denote the schema in the format in which they are read (Cedar documentation, schema grammar, JSON schema format).
abbrev pub IsSchemaFile : Language → List ℕ → SchemaTree → Type 0
IsSchemaFile language bytes s = InFormat (is_schema_text language bytes) (TextDenotes bytes s) (BytesDenote language bytes s)

-- The command line names a schema file, and in the language its bytes denote the schema (own).
abbrev pub HoldsSchema : Language → Option (List ℕ) → SchemaTree → Type 0
HoldsSchema language held s = MatchOption held ⊥ (λ bytes. IsSchemaFile language bytes s)

-- ---- why it is refused

-- The refusal is one of the grammar of the schema syntax, with its place. It is never 1, since out of memory is not a fault of a text
-- (own).
abbrev pub HasGrammarFault : List ℕ → FileRefusal → Type 0
HasGrammarFault bytes refusal =
    (fault : SchemaTextFault) × HasFault bytes fault × (text.number_of fault ≢ 1) × (refusal ≡ record { number = text.number_of fault; offset = text.offset_of fault })

-- The text denotes a JSON, and the refusal is one of that JSON, without a place (own).
abbrev pub HasDeclarationFault : List ℕ → FileRefusal → Type 0
HasDeclarationFault bytes refusal =
    (d : Data) × IsSchemaText bytes d × ((fault : SchemaFault) × IsRefusedWith Cedar4 d fault × (fault ≢ OutOfMemory) × (refusal ≡ record { number = number_of fault; offset = None }))

-- Why a text denotes no schema (own).
abbrev pub IsNoSchemaText : List ℕ → FileRefusal → Type 0
IsNoSchemaText bytes refusal = HasGrammarFault bytes refusal ⊎ HasDeclarationFault bytes refusal

-- Why bytes that are not read as a text denote no schema: the number, without a place, of a fault that they have. It is never 1, since
-- out of memory is not a fault of bytes (own).
abbrev pub IsNoSchemaJson : Language → List ℕ → FileRefusal → Type 0
IsNoSchemaJson language bytes refusal =
    (fault : SchemaFault) × BytesAreRefusedWith language bytes fault × (fault ≢ OutOfMemory) × (refusal ≡ record { number = number_of fault; offset = None })

-- Why the bytes denote no schema in the format in which they are read (own).
abbrev pub IsNoSchemaFile : Language → List ℕ → FileRefusal → Type 0
IsNoSchemaFile language bytes refusal = InFormat (is_schema_text language bytes) (IsNoSchemaText bytes refusal) (IsNoSchemaJson language bytes refusal)

-- The command line names a schema file, and this is why in the language it holds no schema (own).
abbrev pub HoldsNoSchema : Language → Option (List ℕ) → FileRefusal → Type 0
HoldsNoSchema language held refusal = MatchOption held ⊥ (λ bytes. IsNoSchemaFile language bytes refusal)
