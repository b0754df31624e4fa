use Rattle.std.proofs.Common.{◌≡◌, Option, Some, None}
use Rattle.std.specs.Prelude.{option_map}

-- a value of which both parts are known
pub pair_of : {B X Y : Type 0} (f : B → X) (g : B → Y) (o : Option B) (x : X) (y : Y) → Some x ≡ option_map f o → Some y ≡ option_map (λ (p : X × Y). p.1) (option_map {U = X × Y} (λ b. (f b, g b)) o)
    → option_map {U = X × Y} (λ b. (f b, g b)) o ≡ Some (x, y)
pair_of f g None x y p q = cc
pair_of f g (Some b) x y p q = cc
