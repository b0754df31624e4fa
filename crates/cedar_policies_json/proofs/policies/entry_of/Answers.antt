use Rattle.cedar_parser_limits.specs.declared.side_condition.SideCondition.TheVariants.{Strings, Numbers, Keys, Names, Counts, Slots}
use Rattle.cedar_policies_json.proofs.policies.entry_of.Goals as goal

pub to_statement-requires-clause-numbers : goal.to_statement-requires-clause-numbers
to_statement-requires-clause-numbers c = (c.requires.keeps Numbers).conditions

pub to_statement-requires-clause-keys : goal.to_statement-requires-clause-keys
to_statement-requires-clause-keys c = (c.requires.keeps Keys).conditions

pub to_statement-requires-clause-strings : goal.to_statement-requires-clause-strings
to_statement-requires-clause-strings c = (c.requires.keeps Strings).conditions

pub to_statement-requires-clause-names : goal.to_statement-requires-clause-names
to_statement-requires-clause-names c = (c.requires.keeps Names).conditions

pub to_statement-requires-clause-counts : goal.to_statement-requires-clause-counts
to_statement-requires-clause-counts c = (c.requires.keeps Counts).conditions

pub to_statement-requires-clause-slots : goal.to_statement-requires-clause-slots
to_statement-requires-clause-slots c = (c.requires.keeps Slots).conditions
