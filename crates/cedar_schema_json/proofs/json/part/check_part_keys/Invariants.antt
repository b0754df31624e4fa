use Rattle.std.proofs.Common.{◌≡◌}
use Rattle.serde_json.specs.View.{members_view}
use Rattle.cedar_schema_json.specs.Reading.{key_faults}
use Rattle.cedar_schema_json.specs.Entries.{belongs}
use Rattle.cedar_schema_json.proofs.json.part.check_part_keys.Given as goal

-- the faults of all keys are those of the keys that are left
abbrev pub invariant-loop-key : goal.invariant-loop-key
invariant-loop-key l = key_faults (belongs l.language l.part) (members_view l.members.entries) ≡ key_faults (belongs l.language l.part) (members_view l.key-iterator)
