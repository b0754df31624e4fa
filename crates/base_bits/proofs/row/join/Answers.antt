use Rattle.std.proofs.Common.{◌≤◌, length, get_or, bit_or, inl, inr, ap, ◌∙◌, arith}
use Rattle.std.proofs.lemmas.Bool.{cases_lt}
use Rattle.std.proofs.lemmas.List.{get_or_past}
use Rattle.base_bits.proofs.Rows.{has_bit-joined, or_none}
use Rattle.base_bits.proofs.row.join.Goals as goal

pub returns-clause-joined : goal.returns-clause-joined
returns-clause-joined c =
    let old = c.args.row.now.items in
    let new = c.loop-place.row.items in
    let other = c.args.other.now in
    let same = c.in_ok-grow.ensures.same in
    has_bit-joined old other new
    (λ k. elim (cases_lt k c.loop-place.place) [
      | inl done ↦ c.loop-place.invariant.done k done ∙ ap (λ w. bit_or w (get_or other k 0)) (same k)
      | inr due ↦ (let past : length other ≤ k = omega arith in c.loop-place.invariant.due k due ∙ same k ∙ or_none (get_or old k 0) (get_or other k 0) (get_or_past other k 0 past))
    ])
