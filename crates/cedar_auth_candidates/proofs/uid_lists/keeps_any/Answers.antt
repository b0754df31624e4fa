use Rattle.std.proofs.Common.{ℕ, List, subst}
use Rattle.std.specs.Global.{Vec}
use Rattle.cedar_value.specs.declared.uid.Uid.{Uid}
use Rattle.cedar_auth_candidates.specs.Private.Kept.{LacksBits}
use Rattle.cedar_auth_candidates.proofs.Asking.{LacksOrLeft, lacks_all, lacks_more}
use Rattle.cedar_auth_candidates.proofs.uid_lists.keeps_any.Goals as goal

pub loop-list-preserved : goal.loop-list-preserved
loop-list-preserved c =
    let row = c.args.row.now in
    let all = c.args.lists.now.entries in
    lacks_more row all c.next.new.self c.in-Some.field-0-0.now c.in-Some.list.now
    (subst (λ (ys : List ℕ). LacksBits row ys) c.deref.ensures.value c.if-has_any.ensures)
    (subst (λ (es : List (Uid × Vec ℕ)). LacksOrLeft row all es) c.in-Some.ensures.steps c.loop-list.invariant)

pub returns : goal.returns
returns c =
    let row = c.args.row.now in
    let all = c.args.lists.now.entries in
    lacks_all row all (subst (λ (es : List (Uid × Vec ℕ)). LacksOrLeft row all es) c.in-None.ensures.steps.0 c.loop-list.invariant)
