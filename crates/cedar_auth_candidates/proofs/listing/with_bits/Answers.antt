use Rattle.std.proofs.Common.{ℕ, List, sym, ap, subst, ◌∙◌, ◌+◌, take}
use Rattle.std.specs.Global.{Vec}
use Rattle.cedar_auth_candidates.specs.Private.Kept.{Holds}
use Rattle.cedar_auth_candidates.proofs.ListedPositions.{AreFound, found_more, found_same, found_all, among_more, among_same, among_all}
use Rattle.cedar_auth_candidates.proofs.listing.with_bits.Goals.{then-has_bit+in_ok-push, else-has_bit}
use Rattle.cedar_auth_candidates.proofs.listing.with_bits.Goals as goal

pub loop-position-preserved : goal.loop-position-preserved
loop-position-preserved c =
    let row = c.args.row.now in
    let xs = c.args.positions.now in
    let i = c.loop-position.position-index in
    let old = c.loop-position.found.items in
    let before = c.loop-position.invariant in
    elim c.if-has_bit.branch [
      | then-has_bit+in_ok-push w ↦
          let new = c.if-has_bit.found.items in
          let pushed = ap (λ (v : Vec ℕ). v.items) w.found-is ∙ w.in_ok-push.ensures.items in
          (found_more row xs old new i c.loop-position-test.true pushed before.0, among_more xs old new i c.loop-position-test.true pushed before.1)
      | else-has_bit w ↦ subst (λ (ys : List ℕ). AreFound row (take (i + 1) xs) ys × Holds ys (take (i + 1) xs)) (sym (ap (λ (v : Vec ℕ). v.items) w.found-is))
          (found_same row xs old i c.loop-position-test.true (sym c.has_bit.ensures ∙ w.if-has_bit.false) before.0, among_same xs old i c.loop-position-test.true before.1)
    ]

pub returns-clause-found : goal.returns-clause-found
returns-clause-found c = found_all c.args.row.now c.args.positions.now c.loop-position.found.items c.loop-position.position-index c.loop-position-test.false c.loop-position.invariant.0

pub returns-clause-among : goal.returns-clause-among
returns-clause-among c = among_all c.args.positions.now c.loop-position.found.items c.loop-position.position-index c.loop-position-test.false c.loop-position.invariant.1
