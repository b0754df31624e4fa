-- A recursion on a count of turns, beside a loop that counts up.
use Rattle.std.proofs.Common.{◌≡◌, ℕ, suc, ◌+◌, ◌-◌, ◌<◌, ◌≤◌, ap, arith}

pub one_left : (n at : ℕ) → at < n → n - at ≡ suc (n - (at + 1))
one_left n at below = omega arith

pub deeper : {X : Type 0} (go : ℕ → X) (n : ℕ) → 0 < n → go n ≡ go (suc (n - 1))
deeper go n some = let e : n ≡ suc (n - 1) = omega arith in ap go e

pub none_deep : {X : Type 0} (go : ℕ → X) (n : ℕ) → n ≤ 0 → go n ≡ go 0
none_deep go n none = let e : n ≡ 0 = omega arith in ap go e
