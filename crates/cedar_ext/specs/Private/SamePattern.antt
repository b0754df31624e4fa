-- The test of equality of two patterns is exact.
use Rattle.std.specs.Prelude.{◌≡◌, Bool, true, false, ◌&&◌, nat_eq, List, [], ◌∷◌, refl}
use Rattle.std.proofs.Common.{ap, eqb-true, eq-eqb}
use Rattle.std.specs.Bool.{Decides}
use Rattle.std.specs.Cmp.{IsEquivalence, decided}
use Rattle.cedar_ext.specs.declared.pattern.Element.{Element}
use Rattle.cedar_ext.specs.declared.pattern.Element.TheVariants.{Character, Star}
pub use Rattle.cedar_ext.specs.SamePattern.{same_element, same_pattern}

pub same_element-Decides : (e f : Element) → Decides (same_element e f) (e ≡ f)
same_element-Decides (Character c) (Character d) = (λ h. ap Character (eqb-true c d h), λ p. let q : c ≡ d = cc in eq-eqb c d q)
same_element-Decides (Character c) Star = (λ h. cc, λ p. cc)
same_element-Decides Star (Character d) = (λ h. cc, λ p. cc)
same_element-Decides Star Star = (λ h. refl, λ p. refl)

both : (a b : Bool) {P Q : Type 0} → Decides a P → Decides b Q → Decides (a && b) (P × Q)
both true b p q = (λ e. (p.0 refl, q.0 e), λ h. q.1 h.1)
both false b p q = (λ e. absurd (cc), λ h. p.1 h.0)

pub same_pattern-Decides : (es fs : List Element) → Decides (same_pattern es fs) (es ≡ fs)
same_pattern-Decides [] [] = (λ h. refl, λ p. refl)
same_pattern-Decides [] (f ∷ fs) = (λ h. cc, λ p. cc)
same_pattern-Decides (e ∷ es) [] = (λ h. cc, λ p. cc)
same_pattern-Decides (e ∷ es) (f ∷ fs) =
    let b = both _ _ (same_element-Decides e f) (same_pattern-Decides es fs) in
    (λ h. let p = b.0 h in λ i. p.0 i ∷ p.1 i, λ p. let here : e ≡ f = cc in let rest : es ≡ fs = cc in b.1 (here, rest))

pub pattern_equivalence : IsEquivalence same_pattern
pattern_equivalence = decided same_pattern same_pattern-Decides
