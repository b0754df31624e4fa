use Rattle.std.proofs.Common.{◌≡◌, ℕ, true, false, sym, ap, ◌∙◌}
use Rattle.std.specs.Global.{Vec}
use Rattle.cedar_auth_candidates.specs.Private.Sifting.{Holds, none_left}
use Rattle.cedar_auth_candidates.proofs.Sifts.{sifted_kept, sifted_dropped, sifted_all}
use Rattle.cedar_auth_candidates.proofs.sifting.sifted.Goals.{then-holds_at+in_ok-push, else-holds_at}
use Rattle.cedar_auth_candidates.proofs.sifting.sifted.Goals as goal

pub loop-position-init : goal.loop-position-init
loop-position-init c = rw c.new-kept.ensures.items none_left

pub loop-position-preserved : goal.loop-position-preserved
loop-position-preserved c =
    let ps = c.args.policies.now.policies in
    let P = Holds c.args.schema.now c.args.question in
    let xs = c.args.positions.now in
    let i = c.loop-position.position-index in
    elim c.if-holds_at.branch [
      | then-holds_at+in_ok-push w ↦ sifted_kept ps P xs c.loop-position.kept.items c.if-holds_at.kept.items i c.loop-position-test.true c.loop-position.invariant (c.holds_at.ensures.0 w.if-holds_at.true) (ap (λ (v : Vec ℕ). v.items) w.kept-is ∙ w.in_ok-push.ensures.items)
      | else-holds_at w ↦ sifted_dropped ps P xs c.loop-position.kept.items c.if-holds_at.kept.items i c.loop-position-test.true c.loop-position.invariant (λ h. let no : true ≡ false = sym (c.holds_at.ensures.1 h) ∙ w.if-holds_at.false in cc) (ap (λ (v : Vec ℕ). v.items) w.kept-is)
    ]

pub returns : goal.returns
returns c =
    sifted_all c.args.policies.now.policies (Holds c.args.schema.now c.args.question) c.args.positions.now c.loop-position.kept.items c.loop-position.position-index c.loop-position-test.false c.loop-position.invariant
