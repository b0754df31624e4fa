-- What a policy text is, and why a text is not one (Cedar language reference, grammar; policies).
use Rattle.std.specs.Prelude.{◌≡◌, ℕ, suc, List, [], ◌∷◌, ◌++◌, length, Some, All, Contains}
use Rattle.cedar_ext.specs.declared.language.Language.{Language}
use Rattle.cedar_ext.specs.declared.language.Language.TheVariants.{Profile, Cedar4}
use Rattle.cedar_ast_expressions.specs.Keys.{AreDistinct}
use Rattle.cedar_ast.specs.PolicySetTree.{PolicySetTree, no_policies}
use Rattle.cedar_parser_tokens.specs.Faults.{LacksTokens}
use Rattle.cedar_parser_tokens.specs.Marks.{Marks, IsMarked, IsNormallyMarked}
use Rattle.cedar_parser_statements.specs.Statements.{Statements}
use Rattle.cedar_parser_statements.specs.StatementText.{max_open}
use Rattle.cedar_parser_tree.specs.StatementTree.{StatementTree}
use Rattle.cedar_parser_limits.specs.StatementMeaning.{entered_from, ids_from, written_id, written_ids_from}
use Rattle.cedar_parser_limits.specs.StatementLimits.{IsWithinLimits, Breaks}
use Rattle.cedar_parser_expressions.specs.Nesting.{IsDeep}
use Rattle.cedar_parser_tokens.specs.declared.parse_fault.ParseFault.{ParseFault}
use Rattle.cedar_parser_tokens.specs.declared.parse_fault.ParseFault.TheVariants as f

-- The tokens from ts up to us are statements within the limits of a language, each with an id of its own, and this is the set of their
-- policies and templates (Cedar language reference, grammar; policies).
pub record ArePolicies (language : Language) (ts us : Marks) (set : PolicySetTree) : Type 0 where
  pub statements : List StatementTree
  pub reading : Statements (suc max_open) ts statements us
  pub limits : All (IsWithinLimits language) statements
  pub meaning : set ≡ entered_from no_policies 0 statements
  pub distinct : AreDistinct (ids_from 0 statements)

-- The tokens are not policies of a language (own).
abbrev pub NoPolicies : Language → Marks → Type 0
NoPolicies l ts = (set : PolicySetTree) → ArePolicies l ts [] set → ⊥

-- The tokens that a language reads for a text: those that it has, or else, in Cedar 4, its normal ones, where those that it has are not
-- policies (Cedar language reference, grammar; own).
pub data IsRead (language : Language) (source : List ℕ) : Marks → Type 0 where
  written : {ts : Marks} → IsMarked source ts → IsRead language source ts
  normal : {ts us : Marks} → language ≡ Cedar4 → IsMarked source ts → NoPolicies Cedar4 ts → IsNormallyMarked source us → IsRead language source us

-- The text has tokens, and in the language this is the set of its policies and templates (Cedar language reference, grammar; policies).
pub record IsPolicyText (language : Language) (source : List ℕ) (set : PolicySetTree) : Type 0 where
  pub tokens : Marks
  pub are_tokens : IsRead language source tokens
  pub are_policies : ArePolicies language tokens [] set

-- ---- refusals

-- From ts on there are statements, the last of which breaks the side condition or the limit of the refusal (own).
pub record BreaksLimit (language : Language) (ts : Marks) (fault : ParseFault) : Type 0 where
  pub statements : List StatementTree
  pub last : StatementTree
  pub rest : Marks
  pub reading : Statements (suc max_open) ts (statements ++ last ∷ []) rest
  pub broken : Breaks language last fault

-- From ts on there are statements, the last of which has the id of one before it. A statement whose annotation `id` denotes no
-- string has no id (own).
pub record RepeatsId (ts : Marks) : Type 0 where
  pub statements : List StatementTree
  pub last : StatementTree
  pub rest : Marks
  pub reading : Statements (suc max_open) ts (statements ++ last ∷ []) rest
  pub id : List ℕ
  pub own : written_id (length statements) last ≡ Some id
  pub repeated : Contains (written_ids_from 0 statements) (Some id)

-- The tokens of a policy text have the fault of the refusal. Out of memory says nothing about them (own).
abbrev pub TokensFault : Language → Marks → ParseFault → Type 0
TokensFault l ts f.OutOfMemory = Unit {0}
TokensFault l ts (f.Text fault) = ⊥
TokensFault l ts (f.Syntax at) = (d : ℕ) (ss : List StatementTree) → Statements d ts ss [] → ⊥
TokensFault l ts (f.TooDeep at) = IsDeep max_open ts
TokensFault l ts (f.DuplicateId at) = RepeatsId ts
TokensFault l ts fault = BreaksLimit l ts fault

-- The tokens that a language reads last for a text, which a refusal is about (own).
abbrev pub IsReadLast : Language → List ℕ → Marks → Type 0
IsReadLast Profile source ts = IsMarked source ts
IsReadLast Cedar4 source ts = IsNormallyMarked source ts

-- A text is refused since it has no tokens, or since the tokens that are read last have the fault of the refusal. Out of memory says
-- nothing about it (own).
abbrev pub HasFault : Language → List ℕ → ParseFault → Type 0
HasFault l source f.OutOfMemory = Unit {0}
HasFault l source (f.Text fault) = LacksTokens source fault
HasFault l source fault = (ts : Marks) × IsReadLast l source ts × TokensFault l ts fault
