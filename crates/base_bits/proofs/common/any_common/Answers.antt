use Rattle.std.proofs.Common.{length, refl, inl, inr, arith}
use Rattle.std.proofs.lemmas.Bool.{cases_lt}
use Rattle.std.proofs.lemmas.List.{get_or_past}
use Rattle.base_bits.proofs.Bits.{common_from, no_common, apart_past}
use Rattle.base_bits.proofs.common.any_common.Goals as goal

pub returns-then-any_common_lane : goal.returns-then-any_common_lane
returns-then-any_common_lane c = let some = c.if-any_common_lane.ensures.found refl in (λ _. common_from c.args.a.now c.args.b.now c.type_inv.a some.0 some.1, λ _. refl)

pub returns-then-a-place-ne0 : goal.returns-then-a-place-ne0
returns-then-a-place-ne0 c = (λ _. common_from c.args.a.now c.args.b.now c.type_inv.a c.loop-place.place (λ z. absurd (omega arith)), λ _. refl)

pub returns : goal.returns
returns c = (
  λ h. absurd (cc),
  λ common. absurd (no_common c.args.a.now c.args.b.now
      (λ i. elim (cases_lt i (length c.args.a.now)) [
        | inl within ↦ c.loop-place.invariant i (omega arith)
        | inr past ↦ apart_past c.args.a.now c.args.b.now i (get_or_past c.args.a.now i 0 past)
      ])
      common),
)
