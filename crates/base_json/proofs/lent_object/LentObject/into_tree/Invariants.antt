use Rattle.std.proofs.Common.{◌≡◌, length}
use Rattle.std.specs.Vec.Iter.{into_iter_items, into_iter_len}
use Rattle.serde_json.specs.Data.{no_members}
use Rattle.serde_json.specs.View.{members_view}
use Rattle.base_json.specs.LentObjects.{put_all}
use Rattle.base_json.proofs.lent_object.LentObject.into_tree.Given as goal

-- the members are those in the tree, and after them those that are left
abbrev pub invariant-loop-member : goal.invariant-loop-member
invariant-loop-member l =
    (put_all (into_iter_items l.initial.member-iterator) no_members ≡ put_all (into_iter_items l.member-iterator) (members_view l.found.entries))
    × (into_iter_len l.member-iterator ≡ length (into_iter_items l.member-iterator))
