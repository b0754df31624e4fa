-- The test that slices of elements are compared by tells equal ones.
use Rattle.std.proofs.Common.{◌≡◌, eqb-true, eq-eqb, List, refl, ap}
use Rattle.std.specs.Bool.{Decides}
use lib.Pointwise.{pointwise, pointwise_decides}
use Rattle.cedar_ext.specs.declared.pattern.Element.{Element}
use Rattle.cedar_ext.specs.declared.pattern.Element.TheVariants.{Character, Star}
use Rattle.cedar_ext.specs.contracts.pattern.ElementPartialEq.TheImpl.{eq-value as derived}

derived-Decides : (e f : Element) → Decides (derived.it e f) (e ≡ f)
derived-Decides (Character c) (Character d) = (λ h. ap Character (eqb-true c d h), λ p. let q : c ≡ d = cc in eq-eqb c d q)
derived-Decides (Character c) Star = (λ h. cc, λ p. cc)
derived-Decides Star (Character d) = (λ h. cc, λ p. cc)
derived-Decides Star Star = (λ h. refl, λ p. refl)

pub pointwise-Decides : (es fs : List Element) → Decides (pointwise derived.it es fs) (es ≡ fs)
pointwise-Decides es fs = pointwise_decides derived-Decides es fs
