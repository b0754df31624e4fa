use Rattle.std.proofs.Common.{◌≡◌}
use Rattle.serde_json.specs.View.{members_view}
use Rattle.cedar_conform_values.specs.Objects.{are_only}
use Rattle.cedar_conform.specs.Links.{is_slot_key}
use Rattle.cedar_conform.proofs.links.are_slot_keys.Given as goal

-- all keys are of slots where those that are left are
abbrev pub invariant-loop-key : goal.invariant-loop-key
invariant-loop-key l = are_only is_slot_key (members_view l.members.entries) ≡ are_only is_slot_key (members_view l.key-iterator)
