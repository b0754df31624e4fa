-- What entering a statement ensures.
use Rattle.std.specs.Prelude.{◌≡◌, ℕ, ◌==◌, if◌then◌else◌, List, Contains}
use Rattle.cedar_ast.specs.PolicySetTree.{PolicySetTree, id_of, ids_in}
use Rattle.cedar_ast.specs.declared.statement.Statement.{Statement}
use Rattle.cedar_ext.specs.declared.language.Language.{Language}
use Rattle.cedar_parser_limits.specs.StatementLimits.{Breaks}
use Rattle.cedar_parser_tokens.specs.declared.parse_fault.ParseFault.{ParseFault}
use Rattle.cedar_parser_tokens.specs.declared.parse_fault.ParseFault.TheVariants as f
use Rattle.cedar_policies_json.specs.declared.named_statement.NamedStatement.{NamedStatement}
use Rattle.cedar_policies_json.specs.declared.policy_file_fault.PolicyFileFault.{PolicyFileFault}
use Rattle.cedar_policies_json.specs.declared.policy_file_fault.PolicyFileFault.TheVariants as file
use Rattle.cedar_policies_json.specs.PolicyFiles.{HasFaultAt}

-- why a statement is not entered in a set
abbrev pub RefusesEntry : Language → PolicySetTree → NamedStatement → ParseFault → Type 0
RefusesEntry l set n f.OutOfMemory = Unit {0}
RefusesEntry l set n (f.DuplicateId at) = Contains (ids_in set) n.id
RefusesEntry l set n fault = Breaks l n.statement fault

-- a refusal when out of memory, or of an id for which P holds
abbrev pub RefusesWhere : Type 0 → ParseFault → Type 0
RefusesWhere P f.OutOfMemory = Unit {0}
RefusesWhere P (f.DuplicateId at) = P
RefusesWhere P fault = ⊥

-- why a policy or template is not added to a set
abbrev pub RefusesAdd : PolicySetTree → Statement → ParseFault → Type 0
RefusesAdd set entry fault = RefusesWhere (Contains (ids_in set) (id_of entry)) fault

-- the refusal of this number
abbrev pub refusal_for : ℕ → ParseFault
refusal_for n = if n == 204 then f.DuplicateId 0 else f.OutOfMemory

-- the refusal of the statement at a position
abbrev pub refusal_at : ℕ → ParseFault → PolicyFileFault
refusal_at position f.OutOfMemory = file.OutOfMemory
refusal_at position breach = file.Statement position breach

-- why the statement at a position is not entered in a set
abbrev pub RefusesAt : Language → PolicySetTree → ℕ → NamedStatement → PolicyFileFault → Type 0
RefusesAt l set position n e = (x : ParseFault) × (e ≡ refusal_at position x) × RefusesEntry l set n x

-- why statements are refused
abbrev pub RefusesSet : Language → List NamedStatement → PolicyFileFault → Type 0
RefusesSet l ns file.OutOfMemory = Unit {0}
RefusesSet l ns (file.Statement position breach) = HasFaultAt l ns position breach
RefusesSet l ns _ = ⊥
