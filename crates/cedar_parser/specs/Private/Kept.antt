-- What holds of each side condition.
use Rattle.cedar_parser_limits.specs.declared.side_condition.SideCondition.{SideCondition}
use Rattle.cedar_parser_limits.specs.declared.side_condition.SideCondition.TheVariants.{Strings, Numbers, Keys, Names, Counts, Slots}

-- it holds of each side condition, as when all of them are kept
abbrev pub Every : (SideCondition → Type 0) → Type 0
Every P = P Numbers × P Keys × P Strings × P Names × P Counts × P Slots
