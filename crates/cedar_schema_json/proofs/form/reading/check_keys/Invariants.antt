use Rattle.std.proofs.Common.{◌≡◌}
use Rattle.serde_json.specs.View.{members_view}
use Rattle.cedar_schema_json.specs.Reading.{key_faults, may_have}
use Rattle.cedar_schema_json.proofs.form.reading.check_keys.Given as goal

-- the faults of all keys are those of the keys that are left
abbrev pub invariant-loop-key : goal.invariant-loop-key
invariant-loop-key l =
    key_faults (may_have l.language l.kind l.position) (members_view l.members.entries) ≡ key_faults (may_have l.language l.kind l.position) (members_view l.key-iterator)
