-- Nothing is below anything in the world without entities.
use Rattle.std.proofs.Common.{◌≡◌, false, ◌||◌, List, [], ◌∷◌, refl, ap, ◌∙◌}
use Rattle.cedar_value.specs.Datum.{Datum, boolean, long, text, uid, set, record_of, extension}
use Rattle.base_reach.specs.Closure.{leads}
use Rattle.cedar_value.specs.World.{below, below_any, below_datum}
use Rattle.cedar_value.specs.declared.uid.Uid.{Uid}

pub below-empty : (u v : Uid) → false ≡ below [] u v
unfolding below leads
below-empty u v = refl

below_datum-empty : (u : Uid) (d : Datum) → false ≡ below_datum [] u d
below_datum-empty u (uid v) = below-empty u v
below_datum-empty u (boolean b) = refl
below_datum-empty u (long n) = refl
below_datum-empty u (text t) = refl
below_datum-empty u (set ms) = refl
below_datum-empty u (record_of fs) = refl
below_datum-empty u (extension e) = refl

pub below_any-empty : (u : Uid) (ds : List Datum) → false ≡ below_any [] u ds
below_any-empty u [] = refl
below_any-empty u (d ∷ ds) = below_any-empty u ds ∙ ap (λ b. b || below_any [] u ds) (below_datum-empty u d)
