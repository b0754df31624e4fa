-- Paths from a condition to its parts, and what is held at each part.
use Rattle.std.specs.Prelude.{◌≡◌, ◌++◌, ℕ, List, [], ◌∷◌, Option, Some, None, nat_eq, slice_get, if◌then◌else◌}
use Rattle.cedar_ast_expressions.specs.Expression.{Expression, literal, variable, and, or, if_else, unary, binary, set_with, record_with, Expressions, no_more, and_then, Entries, no_entries, entry}
use Rattle.cedar_schema_types.specs.declared.truth.Truth.{Truth}
use Rattle.cedar_schema_types.specs.Types as kind
use Rattle.cedar_schema_spec.specs.declared.environment.Environment.{Environment}
use Rattle.cedar_schema_spec.specs.SchemaTree.{SchemaTree}
use Rattle.cedar_check_spec.specs.Capabilities.{Capabilities}
use Rattle.cedar_check_spec.specs.Typing.{MayHold, TypesWith}
use Rattle.cedar_check_spec.specs.declared.settings.Settings.{Settings}

-- The operand, whose number is 0 (own).
abbrev pub only_one : Expression → ℕ → Option Expression
only_one a n = if nat_eq n 0 then Some a else None

-- The left one of two operands, whose number is 0, or the right one, whose number is 1 (own).
abbrev pub one_of_two : Expression → Expression → ℕ → Option Expression
one_of_two a b n = if nat_eq n 0 then Some a else (if nat_eq n 1 then Some b else None)

-- The condition of an `if`, whose number is 0, or one of its branches (own).
abbrev pub one_of_three : Expression → Expression → Expression → ℕ → Option Expression
one_of_three c a b n = if nat_eq n 0 then Some c else (if nat_eq n 1 then Some a else (if nat_eq n 2 then Some b else None))

-- The members of a set, in order (Cedar language reference, data types: Set).
abbrev pub members_of : Expressions → List Expression
members_of no_more = []
members_of (and_then e es) = e ∷ members_of es

-- The values of the entries of a record, in order (Cedar language reference, data types: Record).
abbrev pub values_of : Entries → List Expression
values_of no_entries = []
values_of (entry k e fs) = e ∷ values_of fs

-- The part of an expression that has this number: operands, branches, members and entries count from 0 (own).
abbrev pub part_of : Expression → ℕ → Option Expression
part_of (literal v) n = None
part_of (variable x) n = None
part_of (and a b) n = one_of_two a b n
part_of (or a b) n = one_of_two a b n
part_of (if_else c a b) n = one_of_three c a b n
part_of (unary op a) n = only_one a n
part_of (binary op a b) n = one_of_two a b n
part_of (set_with es) n = slice_get (members_of es) n
part_of (record_with fs) n = slice_get (values_of fs) n

-- The part that is true wherever the part of this number is evaluated: the left side of `&&` for its right side, the condition of
-- `if` for its first branch (Cedar documentation, strict validation: capabilities).
abbrev pub guard_of : Expression → ℕ → Option Expression
guard_of (and a b) n = if nat_eq n 1 then Some a else None
guard_of (if_else c a b) n = if nat_eq n 1 then Some c else None
guard_of _ n = None

-- Where the first capabilities are held, the expression is a Boolean that may be true, and it gains the second ones where it is
-- (Cedar documentation, strict validation: capabilities).
pub record Gains (settings : Settings) (s : SchemaTree) (env : Environment) (held : Capabilities) (e : Expression) (gained : Capabilities) : Type 0 where
  pub truth : Truth
  pub typed : TypesWith settings s env held e (kind.boolean truth) gained
  pub may : MayHold truth

-- The capabilities are those that the guard gains, and none where there is no guard (Cedar documentation, strict validation:
-- capabilities).
abbrev pub AreGainedBy : Settings → SchemaTree → Environment → Capabilities → Option Expression → Capabilities → Type 0
AreGainedBy settings s env held None gained = gained ≡ []
AreGainedBy settings s env held (Some a) gained = Gains settings s env held a gained

-- The part of an expression that has this number, and the capabilities that are gained before it is evaluated (Cedar
-- documentation, strict validation: capabilities).
pub record IsStep (settings : Settings) (s : SchemaTree) (env : Environment) (held : Capabilities) (e : Expression) (n : ℕ) (gained : Capabilities) (part : Expression) : Type 0 where
  pub here : part_of e n ≡ Some part
  pub before : AreGainedBy settings s env held (guard_of e n) gained

-- From an expression, where the first capabilities are held, the path leads to the part, where the last ones are held: the path has
-- the number of a part at each step (Cedar documentation, strict validation: capabilities).
abbrev pub LeadsTo : Settings → SchemaTree → Environment → Capabilities → Expression → List ℕ → Capabilities → Expression → Type 0
LeadsTo settings s env held e [] h p = (h ≡ held) × (p ≡ e)
LeadsTo settings s env held e (n ∷ path) h p = (gained : Capabilities) × (part : Expression) × IsStep settings s env held e n gained part × LeadsTo settings s env (held ++ gained) part path h p
