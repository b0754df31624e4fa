use Rattle.std.proofs.Common.{◌≡◌}
use Rattle.serde_json.specs.View.{members_view}
use Rattle.cedar_schema_types.specs.Types.{names_of}
use Rattle.cedar_conform_values.specs.Values.{extra_faults}
use Rattle.cedar_conform_values.proofs.value.check_keys.Given as goal

-- the faults of all keys are those of the keys that are left
abbrev pub invariant-loop-key : goal.invariant-loop-key
invariant-loop-key l =
    extra_faults (names_of l.attributes) (members_view l.members.entries) ≡ extra_faults (names_of l.attributes) (members_view l.key-iterator)
