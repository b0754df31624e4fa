use Rattle.std.proofs.Common.{slice_index, ◌≡◌, false, List, ℕ, sym, subst, ◌∙◌}
use Rattle.std.specs.List.{list_any}
use Rattle.std.proofs.lemmas.List.{take_all}
use Rattle.base_reach.proofs.Listed.{any_at}
use Rattle.cedar_store.specs.Private.Kept.{has_datum, is_number_of}
use Rattle.cedar_store.proofs.AboveNear.{at_index}
use Rattle.cedar_store.proofs.NearMembers.{more_members, never_any, no_member_more}
use Rattle.cedar_store.proofs.ahead.is_any_near.Goals as goal

pub loop-at-init : goal.loop-at-init
loop-at-init c = never_any c.args.values.now

pub returns-then-has_uid_at : goal.returns-then-has_uid_at
returns-then-has_uid_at c =
    let keys = c.args.uids.now in
    let near = c.args.near.now in
    let i = c.loop-at.at-index in
    let n = slice_index near i in
    sym (more_members (λ u. is_number_of keys u n) (λ u. list_any (is_number_of keys u) near)
    (λ u h. any_at (is_number_of keys u) near n (i, c.loop-at-test.true, sym (at_index near i n c.loop-at-test.true)) h)
    c.args.values.now (sym c.has_uid_at.ensures ∙ c.if-has_uid_at.true))

pub loop-at-preserved : goal.loop-at-preserved
loop-at-preserved c =
    let near = c.args.near.now in
    let i = c.loop-at.at-index in
    let n = slice_index near i in
    no_member_more c.args.uids.now near c.args.values.now i n c.loop-at-test.true (at_index near i n c.loop-at-test.true) c.loop-at.invariant (sym c.has_uid_at.ensures ∙ c.if-has_uid_at.false)

pub returns : goal.returns
returns c = sym (subst (λ (ns : List ℕ). list_any (has_datum (λ u. list_any (is_number_of c.args.uids.now u) ns)) c.args.values.now ≡ false) (take_all c.loop-at.at-index c.args.near.now c.loop-at-test.false) c.loop-at.invariant)
