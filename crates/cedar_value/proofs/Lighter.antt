-- A member or a pair nests less deep than the list in which it stands.
use Rattle.std.proofs.Common.{◌≡◌, ℕ, zero, suc, ◌<◌, List, [], ◌∷◌, length, get_or, ap, arith}
use Rattle.cedar_value.specs.Datum.{Datum}
use Rattle.cedar_value.specs.Private.Weight.{weight, list_weight, pairs_weight}

pub member_lighter : (ds : List Datum) (i : ℕ) (d : Datum) → i < length ds → d ≡ get_or ds i d → weight d < list_weight ds
member_lighter [] i d within is = absurd (omega arith)
member_lighter (x ∷ ds) zero d within is = omega (arith, ap weight is)
member_lighter (x ∷ ds) (suc i) d within is = omega (arith, member_lighter ds i d (omega arith) is)

pub pair_lighter : (ps : List (List ℕ × Datum)) (i : ℕ) (p : List ℕ × Datum) → i < length ps → p ≡ get_or ps i p → weight p.1 < pairs_weight ps
pair_lighter [] i p within is = absurd (omega arith)
pair_lighter (x ∷ ps) zero p within is = omega (arith, ap (λ (q : List ℕ × Datum). weight q.1) is)
pair_lighter (x ∷ ps) (suc i) p within is = omega (arith, pair_lighter ps i p (omega arith) is)
