use Rattle.std.proofs.Common.{ℕ, ◌*◌, ◌<◌}
use Rattle.base_bits.specs.Private.Apart.{IsApartAt}
use Rattle.base_bits.proofs.common.any_common.Given as goal

abbrev pub invariant-loop-chunk : goal.invariant-loop-chunk
invariant-loop-chunk l = (i : ℕ) → i < l.chunk * 8 → IsApartAt l.a l.b i

abbrev pub invariant-loop-place : goal.invariant-loop-place
invariant-loop-place l = (i : ℕ) → i < l.place → IsApartAt l.a l.b i
