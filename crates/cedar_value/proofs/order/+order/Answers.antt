use Rattle.std.proofs.Common.{arith, sym, ◌∙◌}
use Rattle.cedar_value.specs.Order.{datum_cmp, pair_cmp}
use Rattle.cedar_value.specs.Private.Compare.{datum_cmp-tree, datum_cmp-sets, datum_cmp-records}
use Rattle.cedar_value.proofs.Lighter.{member_lighter, pair_lighter}
use Rattle.cedar_value.proofs.OtherKinds.{other-Boolean, other-Long, other-String, other-Uid, other-Set, other-Record, other-Extension}
use Rattle.cedar_value.proofs.Walk.{rest_cmp-end}
use Rattle.cedar_value.proofs.order.+order.Goals as goal
use Rattle.cedar_value.proofs.order.+order.Goals.{order_glance-in_default-via-in-Boolean+in_default, order_glance-in_default-via-in-Long+in_default, order_glance-in_default-via-in-String+in_default, order_glance-in_default-via-in-Uid+in_default, order_glance-in_default-via-in-Set+in_default, order_glance-in_default-via-in-Record+in_default, order_glance-in_default-via-in-Extension+in_default}

pub order_members-order_glance-found-requires : goal.order_members-order_glance-found-requires
order_members-order_glance-found-requires t c =
    let lighter = member_lighter c.args.left.now c.loop-place.place c.index-left-place.result c.loop-place-test.true c.index-left-place.is in
    (omega (arith, lighter, c.decreases), tt)

pub order_members-returns : goal.order_members-returns
order_members-returns t c =
    c.cmp.ensures ∙ sym (c.loop-place.invariant.0 ∙ rest_cmp-end datum_cmp c.args.left.now c.args.right.now c.loop-place.place (omega arith) c.loop-place.invariant.1)

pub order_pairs-order_pair-found-requires : goal.order_pairs-order_pair-found-requires
order_pairs-order_pair-found-requires t c =
    let lighter = pair_lighter c.args.left.now c.loop-place.place c.index-left-place.result c.loop-place-test.true c.index-left-place.is in
    (omega (arith, lighter, c.decreases), tt)

pub order_pairs-returns : goal.order_pairs-returns
order_pairs-returns t c =
    c.cmp.ensures ∙ sym (c.loop-place.invariant.0 ∙ rest_cmp-end pair_cmp c.args.left.now c.args.right.now c.loop-place.place (omega arith) c.loop-place.invariant.1)

pub order_glance-returns-in-Boolean-Boolean : goal.order_glance-returns-in-Boolean-Boolean
order_glance-returns-in-Boolean-Boolean t c = rw (← c.kind.ensures, c.in-Boolean-Boolean.is-0, c.in-Boolean-Boolean.is-1, datum_cmp-tree) c.cmp.ensures

pub order_glance-returns-in-Long-Long : goal.order_glance-returns-in-Long-Long
order_glance-returns-in-Long-Long t c = rw (← c.kind.ensures, c.in-Long-Long.is-0, c.in-Long-Long.is-1, datum_cmp-tree) c.cmp-in-Long-Long.ensures

pub order_glance-returns-in-String-String : goal.order_glance-returns-in-String-String
order_glance-returns-in-String-String t c = rw (← c.kind.ensures, c.in-String-String.is-0, c.in-String-String.is-1, datum_cmp-tree) c.cmp-in-String-String.ensures

pub order_glance-returns-in-Uid-Uid : goal.order_glance-returns-in-Uid-Uid
order_glance-returns-in-Uid-Uid t c = rw (← c.kind.ensures, c.in-Uid-Uid.is-0, c.in-Uid-Uid.is-1, datum_cmp-tree) (rw c.as_ref.ensures at c.cmp-in-Uid-Uid.ensures)

pub order_glance-returns-in-Set-Set : goal.order_glance-returns-in-Set-Set
order_glance-returns-in-Set-Set t c = rw (← c.kind.ensures, c.in-Set-Set.is-0, c.in-Set-Set.is-1, datum_cmp-sets, ← c.members.ensures.members, ← c.members-in-Set-Set.ensures.members) c.order_members.ensures

pub order_glance-returns-in-Record-Record : goal.order_glance-returns-in-Record-Record
order_glance-returns-in-Record-Record t c = rw (← c.kind.ensures, c.in-Record-Record.is-0, c.in-Record-Record.is-1, datum_cmp-records, ← c.pairs.ensures.pairs, ← c.pairs-in-Record-Record.ensures.pairs) c.order_pairs.ensures

pub order_glance-returns-in-Extension-Extension : goal.order_glance-returns-in-Extension-Extension
order_glance-returns-in-Extension-Extension t c = rw (← c.kind.ensures, c.in-Extension-Extension.is-0, c.in-Extension-Extension.is-1, datum_cmp-tree) c.order.ensures

pub order_glance-returns-in_default : goal.order_glance-returns-in_default
order_glance-returns-in_default t c =
    rw (c.cmp-in_default.ensures, c.kind_number.ensures, c.kind_number-in_default.ensures, c.glance.ensures, ← c.kind.ensures)
    (elim c.in_default.branch [
      | order_glance-in_default-via-in-Boolean+in_default w ↦ rw w.in_default.is-0 (sym (other-Boolean w.in_default.field-0-0 c.args.right w.in_default.not-Boolean-1))
      | order_glance-in_default-via-in-Long+in_default w ↦ rw w.in_default.is-0 (sym (other-Long w.in_default.field-0-0 c.args.right w.in_default.not-Long-1))
      | order_glance-in_default-via-in-String+in_default w ↦ rw w.in_default.is-0 (sym (other-String w.in_default.field-0-0 c.args.right w.in_default.not-String-1))
      | order_glance-in_default-via-in-Uid+in_default w ↦ rw w.in_default.is-0 (sym (other-Uid w.in_default.field-0-0 c.args.right w.in_default.not-Uid-1))
      | order_glance-in_default-via-in-Set+in_default w ↦ rw w.in_default.is-0 (sym (other-Set w.in_default.field-0-0 c.args.right w.in_default.not-Set-1))
      | order_glance-in_default-via-in-Record+in_default w ↦ rw w.in_default.is-0 (sym (other-Record w.in_default.field-0-0 c.args.right w.in_default.not-Record-1))
      | order_glance-in_default-via-in-Extension+in_default w ↦ rw w.in_default.is-0 (sym (other-Extension w.in_default.field-0-0 c.args.right w.in_default.not-Extension-1))
    ])
