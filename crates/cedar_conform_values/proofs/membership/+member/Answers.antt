use Rattle.std.proofs.Common.{arith, refl, sym, ◌∙◌}
use Rattle.cedar_schema_types.specs.TypeKind.{attributes_of}
use Rattle.cedar_conform_values.specs.Private.MemberTest.{is_member, are_fields}
use Rattle.cedar_conform_values.proofs.Belongs.{list_of-members_of, pairs_of-fields_of}
use Rattle.cedar_conform_values.proofs.MemberKinds.{other_boolean, other_long, other_string, other_entity, other_set, other_record, other_extension, walk_refused, walk_on, walk_end}
use Rattle.cedar_conform_values.proofs.TypeHeights.{height_first}
use Rattle.cedar_conform_values.proofs.membership.+member.Goals as goal

pub belongs-returns-in-Boolean-Boolean : goal.belongs-returns-in-Boolean-Boolean
unfolding is_member
belongs-returns-in-Boolean-Boolean t c = rw (← c.kind.ensures, ← c.kind-2.ensures, c.in-Boolean-Boolean.is-0, c.in-Boolean-Boolean.is-1) c.allows.ensures

pub belongs-returns-in-Long-Long : goal.belongs-returns-in-Long-Long
unfolding is_member
belongs-returns-in-Long-Long t c = rw (← c.kind.ensures, ← c.kind-2.ensures, c.in-Long-Long.is-0, c.in-Long-Long.is-1) refl

pub belongs-returns-in-String-String : goal.belongs-returns-in-String-String
unfolding is_member
belongs-returns-in-String-String t c = rw (← c.kind.ensures, ← c.kind-2.ensures, c.in-String-String.is-0, c.in-String-String.is-1) refl

pub belongs-returns-in-Entity-Uid : goal.belongs-returns-in-Entity-Uid
unfolding is_member
belongs-returns-in-Entity-Uid t c = rw (← c.kind.ensures, ← c.kind-2.ensures, c.in-Entity-Uid.is-0, c.in-Entity-Uid.is-1, ← c.deref.ensures) c.eq.ensures.gives

pub belongs-returns-in-Set-Set : goal.belongs-returns-in-Set-Set
unfolding is_member
belongs-returns-in-Set-Set t c = rw (← c.kind.ensures, ← c.kind-2.ensures, c.in-Set-Set.is-0, c.in-Set-Set.is-1, list_of-members_of, ← c.deref-in-Set-Set.ensures, ← c.members.ensures.members) c.all_belong.ensures

pub belongs-returns-in-Record-Record : goal.belongs-returns-in-Record-Record
unfolding is_member
belongs-returns-in-Record-Record t c = rw (← c.kind.ensures, ← c.kind-2.ensures, c.in-Record-Record.is-0, c.in-Record-Record.is-1, pairs_of-fields_of, ← c.attributes.ensures.attributes, ← c.pairs.ensures.pairs) c.are_fields.ensures

pub belongs-returns-in-Extension-Extension : goal.belongs-returns-in-Extension-Extension
unfolding is_member
belongs-returns-in-Extension-Extension t c = rw (← c.kind.ensures, ← c.kind-2.ensures, c.in-Extension-Extension.is-0, c.in-Extension-Extension.is-1, ← c.ty.ensures) c.same.ensures.gives

pub belongs-returns-in_default : goal.belongs-returns-in_default
belongs-returns-in_default t c = rw (← c.kind.ensures, ← c.kind-2.ensures, c.in_default.is-0) (sym (other_boolean c.in_default.field-0-0 c.kind-2.result.now c.in_default.not-Boolean-1))

pub belongs-returns-in_default-2 : goal.belongs-returns-in_default-2
belongs-returns-in_default-2 t c = rw (← c.kind.ensures, ← c.kind-2.ensures, c.in_default.is-0) (sym (other_long c.kind-2.result.now c.in_default.not-Long-1))

pub belongs-returns-in_default-3 : goal.belongs-returns-in_default-3
belongs-returns-in_default-3 t c = rw (← c.kind.ensures, ← c.kind-2.ensures, c.in_default.is-0) (sym (other_string c.kind-2.result.now c.in_default.not-String-1))

pub belongs-returns-in_default-4 : goal.belongs-returns-in_default-4
belongs-returns-in_default-4 t c = rw (← c.kind.ensures, ← c.kind-2.ensures, c.in_default.is-0) (sym (other_entity c.in_default.field-0-0 c.kind-2.result.now c.in_default.not-Uid-1))

pub belongs-returns-in_default-5 : goal.belongs-returns-in_default-5
belongs-returns-in_default-5 t c = rw (← c.kind.ensures, ← c.kind-2.ensures, c.in_default.is-0) (sym (other_set c.in_default.field-0-0.value c.kind-2.result.now c.in_default.not-Set-1))

pub belongs-returns-in_default-6 : goal.belongs-returns-in_default-6
belongs-returns-in_default-6 t c = rw (← c.kind.ensures, ← c.kind-2.ensures, c.in_default.is-0) (sym (other_record c.in_default.field-0-0 c.kind-2.result.now c.in_default.not-Record-1))

pub belongs-returns-in_default-7 : goal.belongs-returns-in_default-7
belongs-returns-in_default-7 t c = rw (← c.kind.ensures, ← c.kind-2.ensures, c.in_default.is-0) (sym (other_extension c.in_default.field-0-0 c.kind-2.result.now c.in_default.not-Extension-1))

pub are_fields-returns-in-None : goal.are_fields-returns-in-None
are_fields-returns-in-None t c =
    walk_refused c.walk.rest.now c.in-Some.attribute.now c.in-Some.others.now c.walk.left.now (are_fields (attributes_of c.args.attributes.now) c.args.pairs.now) c.in-Some.ensures.cases.0 c.in-None.ensures c.walk.invariant.same

pub are_fields-walk-preserved : goal.are_fields-walk-preserved
are_fields-walk-preserved t c =
    let e = c.in-Some.ensures.cases.0 in
    let h = height_first c.walk.rest.now c.in-Some.attribute.now c.in-Some.others.now e in
    let less = c.walk.invariant.less in
    record {
      same = walk_on c.walk.rest.now c.in-Some.attribute.now c.in-Some.others.now c.walk.left.now c.in-Some-behind.later.now (are_fields (attributes_of c.args.attributes.now) c.args.pairs.now) e c.in-Some-behind.ensures c.walk.invariant.same;
      less = omega (arith, h.1, less);
    }

pub are_fields-returns : goal.are_fields-returns
are_fields-returns t c =
    c.is_empty.ensures ∙ walk_end c.walk.rest.now c.walk.left.now (are_fields (attributes_of c.args.attributes.now) c.args.pairs.now) c.in_default.ensures.cases c.walk.invariant.same
