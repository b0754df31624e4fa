-- What judging a statement ensures.
use Rattle.std.specs.Prelude.{◌≡◌, ◌<◌, Option, Some, None, Result, OnOk, IfErr}
use Rattle.cedar_parser_tokens.specs.declared.parse_fault.ParseFault.{ParseFault}
use Rattle.cedar_parser_tokens.specs.declared.parse_fault.ParseFault.TheVariants as f
use Rattle.cedar_parser_limits.specs.declared.breach.Breach.{Breach}
use Rattle.cedar_parser_limits.specs.declared.breach.Breach.TheVariants.{OutOfMemory, Of}
use Rattle.cedar_parser_limits.specs.declared.side_condition.SideCondition.{SideCondition}
use Rattle.cedar_parser_limits.specs.declared.side_condition.SideCondition.TheVariants.{Strings}
use Rattle.cedar_parser_limits.specs.declared.sought.Sought.{Sought}
use Rattle.cedar_parser_limits.specs.declared.size.Size.{Size}
use Rattle.cedar_parser_limits.specs.Limits.{max_height, max_nodes}

-- why a size is refused
abbrev pub BreaksSize : Size → ParseFault → Type 0
BreaksSize size (f.TooHigh at) = max_height < size.height
BreaksSize size (f.TooLarge at) = max_nodes < size.nodes
BreaksSize size fault = ⊥

-- a side condition is the only one, where there is only one
abbrev pub IsAmong : Option SideCondition → SideCondition → Type 0
IsAmong None c = Unit {0}
IsAmong (Some one) c = one ≡ c

-- a walk looks for a side condition
abbrev pub Seeks : Sought → SideCondition → Type 0
Seeks s c = IsAmong s.only c

-- a breach is of a side condition, and not out of memory
abbrev pub IsOfCondition : Breach → Type 0
IsOfCondition OutOfMemory = ⊥
IsOfCondition (Of c at) = Unit {0}

-- the side condition of a breach, where it is of one
abbrev pub condition_of : Breach → SideCondition
condition_of OutOfMemory = Strings
condition_of (Of c at) = c

-- A part that is accepted keeps each side condition that is sought, and one that is refused breaks that of the breach.
abbrev pub Judges : Sought → (SideCondition → Type 0) → Result (Unit {0}) Breach → Type 0
Judges sought kept r = ((c : SideCondition) → Seeks sought c → OnOk r (kept c)) × IfErr r (λ b. IsOfCondition b → kept (condition_of b) → ⊥)

-- Where the parts that are left keep a side condition that is sought, all do, and the other way round.
abbrev pub IsLeft : Sought → (left whole : SideCondition → Type 0) → Type 0
IsLeft sought left whole = (c : SideCondition) → (Seeks sought c → left c → whole c) × (whole c → left c)
