use Rattle.std.proofs.Common.{◌≡◌, ℕ, ◌+◌, ◌<◌, List, length, take, get_or, refl, sym, ap, ◌∙◌, arith}
use Rattle.json.specs.Lex.{between, class}
use Rattle.json.specs.Lex as json
use Rattle.base_json.specs.Private.Modes.{mode_next, mode_behind, mode_of}
use Rattle.base_json.proofs.Bytes.{mode_more, between_is}
use Rattle.base_json.proofs.object_end.object_end.Goals as goal
use Rattle.base_json.proofs.object_end.object_end.Goals.{then-stands_alone+then-byte-eq123, then-stands_alone+else-byte-eq123+then-byte-eq125+else-depth-le1, then-stands_alone+else-byte-eq123+else-byte-eq125, else-stands_alone}

pub loop-i-init : goal.loop-i-init
unfolding mode_behind
loop-i-init c = (refl, omega arith)

next : (bs : List ℕ) (i : ℕ) (m n : json.Mode) → i < length bs → mode_behind between (take i bs) ≡ m → n ≡ mode_next m (class (get_or bs i 0)) → mode_behind between (take (i + 1) bs) ≡ n
next bs i m n less e f = mode_more bs i less ∙ ap (λ k. mode_next k (class (get_or bs i 0))) e ∙ sym f

pub returns-then-depth-le1-clause-mode : goal.returns-then-depth-le1-clause-mode
returns-then-depth-le1-clause-mode c =
    next c.args.bytes.now c.loop-i.i _ _ c.loop-i-test.true c.loop-i.invariant.0 c.next_mode-mode.ensures
    ∙ between_is (mode_of c.next_mode-mode.result) (sym c.if-stands_alone.ensures)

pub loop-i-preserved : goal.loop-i-preserved
loop-i-preserved c =
    let mode = next c.args.bytes.now c.loop-i.i _ _ c.loop-i-test.true c.loop-i.invariant.0 c.next_mode-mode.ensures in
    let depth = c.loop-i.invariant.1 in
    elim c.if-stands_alone.branch [
      | then-stands_alone+then-byte-eq123 w ↦ (mode, omega (arith, depth))
      | then-stands_alone+else-byte-eq123+then-byte-eq125+else-depth-le1 w ↦ (mode, omega (arith, depth))
      | then-stands_alone+else-byte-eq123+else-byte-eq125 w ↦ (mode, omega (arith, depth))
      | else-stands_alone w ↦ (mode, omega (arith, depth))
    ]
