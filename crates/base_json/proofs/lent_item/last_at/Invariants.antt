use Rattle.std.proofs.Common.{◌≡◌, ◌≤◌, length, take}
use Rattle.serde_json.specs.Data.{no_members}
use Rattle.serde_json.specs.Find.{get_member}
use Rattle.base_json.specs.LentItems.{put_values}
use Rattle.base_json.proofs.lent_item.last_at.Given as goal

-- what all members have at the key, those that are left have
abbrev pub invariant-walk : goal.invariant-walk
invariant-walk l = (l.left ≤ length l.members) × (get_member l.key (put_values l.members no_members) ≡ get_member l.key (put_values (take l.left l.members) no_members))

abbrev pub decreases-walk : goal.decreases-walk
decreases-walk l = l.left
