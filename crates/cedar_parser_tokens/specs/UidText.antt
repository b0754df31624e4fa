-- What the text of a uid is (Cedar language reference, entity identifiers).
use Rattle.std.specs.Prelude.{◌≡◌, ℕ, List, [], IsSome, Some, Result, Ok, Err}
use Rattle.cedar_value.specs.declared.uid.Uid.{Uid}
use Rattle.cedar_parser_tokens.specs.Faults.{LacksTokens}
use Rattle.cedar_parser_tokens.specs.Marks.{Marks, IsMarked}
use Rattle.cedar_parser_tokens.specs.Names.{Entity}
use Rattle.cedar_parser_tokens.specs.declared.content.WrittenUid.{WrittenUid}
use Rattle.cedar_parser_tokens.specs.declared.parse_fault.ParseFault.{ParseFault}
use Rattle.cedar_parser_tokens.specs.declared.parse_fault.ParseFault.TheVariants as f

-- The text has tokens, and they are read as this uid, whose id has no `\*` (Cedar language reference, entity identifiers).
pub record IsUidText (source : List ℕ) (uid : Uid) : Type 0 where
  pub tokens : Marks
  pub are_tokens : IsMarked source tokens
  pub written : WrittenUid
  pub reading : Entity tokens written []
  pub ty : uid.ty ≡ written.ty
  pub id : Some uid.id ≡ written.id

-- A text is refused since it has no tokens, since its tokens are not a uid, or since they are one with `\*` in its id. Out of
-- memory says nothing about it (own).
abbrev pub HasUidFault : List ℕ → ParseFault → Type 0
HasUidFault source f.OutOfMemory = Unit {0}
HasUidFault source (f.Text fault) = LacksTokens source fault
HasUidFault source (f.Syntax at) = (ts : Marks) × IsMarked source ts × ((uid : WrittenUid) → Entity ts uid [] → ⊥)
HasUidFault source (f.EscapedStar at) = (ts : Marks) × (u : WrittenUid) × IsMarked source ts × Entity ts u [] × (IsSome u.id → ⊥)
HasUidFault source _ = ⊥

-- The answer is this uid, or memory ran out (own).
abbrev pub AnswersUid : Uid → Result Uid ParseFault → Type 0
AnswersUid uid (Ok found) = found ≡ uid
AnswersUid uid (Err f.OutOfMemory) = Unit {0}
AnswersUid uid (Err _) = ⊥
