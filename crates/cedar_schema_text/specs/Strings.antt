-- What the strings of a schema text denote: what those of policies denote (Cedar documentation, schema grammar: STR).
use Rattle.std.specs.Prelude.{◌≡◌, ℕ, List, [], ◌∷◌, ◌++◌, Some, Contains}
use Rattle.cedar_text.specs.declared.letter.Letter.{Letter}
use Rattle.cedar_text.specs.Letters.{IsSpelled, plain_text_of}
use Rattle.cedar_schema_text.specs.declared.token_kind.TokenKind.TheVariants as k
use Rattle.cedar_schema_text.specs.declared.fault.SchemaTextFault.{SchemaTextFault}
use Rattle.cedar_schema_text.specs.declared.fault.SchemaTextFault.TheVariants as f
use Rattle.cedar_schema_text.specs.Marks.{Mark, Marks}

-- A string, written with quotes round it, denotes this text. The escape `\*` of patterns denotes none (Cedar language reference,
-- grammar: STR; operators: like).
abbrev pub DenotesText : List ℕ → List ℕ → Type 0
DenotesText raw text = (letters : List Letter) × IsSpelled raw letters × (plain_text_of letters ≡ Some text)

-- A token as it is written is read as this one: a string with the text that it denotes, another token with its own (Cedar
-- documentation, schema grammar: STR).
pub record IsRead (p m : Mark) : Type 0 where
  pub kind : m.kind ≡ p.kind
  pub start : m.start ≡ p.start
  pub string : p.kind ≡ k.String → DenotesText p.text m.text
  pub other : (p.kind ≡ k.String → ⊥) → m.text ≡ p.text

-- Tokens as they are written are read as these, one by one (own).
abbrev pub AreRead : Marks → Marks → Type 0
AreRead [] [] = Unit {0}
AreRead [] (m ∷ ms) = ⊥
AreRead (p ∷ ps) [] = ⊥
AreRead (p ∷ ps) (m ∷ ms) = IsRead p m × AreRead ps ms

-- The token is a string that denotes no text, and begins where the refusal is (own).
pub record IsBadString (fault : SchemaTextFault) (p : Mark) : Type 0 where
  pub string : p.kind ≡ k.String
  pub none : (text : List ℕ) → DenotesText p.text text → ⊥
  pub at : fault ≡ f.Syntax p.start

-- One of the tokens as they are written is a string that denotes no text, and begins where the refusal is (own).
abbrev pub HasBadString : Marks → SchemaTextFault → Type 0
HasBadString ps fault = (p : Mark) × Contains ps p × IsBadString fault p

-- The tokens with the sign that the text ends at this byte (own).
abbrev pub ended : ℕ → Marks → Marks
ended end ms = ms ++ record { kind = k.End; start = end; text = [] } ∷ []
