use Rattle.std.proofs.Common.{◌≡◌}
use Rattle.serde_json.specs.View.{members_view}
use Rattle.cedar_conform_values.specs.Objects.{are_only}
use Rattle.cedar_conform_entities.specs.Changes.{is_change_key}
use Rattle.cedar_conform_entities.proofs.keys.are_change_keys.Given as goal

abbrev pub invariant-loop-key : goal.invariant-loop-key
invariant-loop-key l = are_only is_change_key (members_view l.members.entries) ≡ are_only is_change_key (members_view l.key-iterator)
