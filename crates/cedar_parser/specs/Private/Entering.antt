-- What entering a statement ensures.
use Rattle.std.specs.Prelude.{ℕ, ◌==◌, if◌then◌else◌, Contains}
use Rattle.cedar_ext.specs.declared.language.Language.{Language}
use Rattle.cedar_ast.specs.PolicySetTree.{PolicySetTree, id_of, ids_in}
use Rattle.cedar_ast.specs.declared.statement.Statement.{Statement}
use Rattle.cedar_parser_tokens.specs.declared.parse_fault.ParseFault.{ParseFault}
use Rattle.cedar_parser_tokens.specs.declared.parse_fault.ParseFault.TheVariants as f
use Rattle.cedar_parser_tree.specs.StatementTree.{StatementTree}
use Rattle.cedar_parser_limits.specs.StatementMeaning.{id_at}
use Rattle.cedar_parser_limits.specs.StatementLimits.{IsWithinLimits, Breaks}

-- why the policy or template of a statement is not added to a set
abbrev pub RefusesEntry : Language → PolicySetTree → ℕ → StatementTree → ParseFault → Type 0
RefusesEntry l set position statement f.OutOfMemory = Unit {0}
RefusesEntry l set position statement (f.DuplicateId at) = IsWithinLimits l statement × Contains (ids_in set) (id_at position statement)
RefusesEntry l set position statement fault = Breaks l statement fault

-- a refusal when out of memory, or of an id for which P holds
abbrev pub RefusesWhere : Type 0 → ParseFault → Type 0
RefusesWhere P f.OutOfMemory = Unit {0}
RefusesWhere P (f.DuplicateId at) = P
RefusesWhere P fault = ⊥

-- the refusal of this number of the statement at a place
abbrev pub refusal_for : ℕ → ℕ → ParseFault
refusal_for n start = if n == 204 then f.DuplicateId start else f.OutOfMemory

-- why a policy or template is not added to a set
abbrev pub RefusesAdd : PolicySetTree → Statement → ParseFault → Type 0
RefusesAdd set entry fault = RefusesWhere (Contains (ids_in set) (id_of entry)) fault
