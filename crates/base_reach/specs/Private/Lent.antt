-- References as what they refer to.
use Rattle.std.specs.Prelude.{List, map}
use Rattle.std.specs.Borrow.{Bor}

abbrev pub lent : {A : Type 0} → List (Bor A) → List A
lent us = map (λ u. u.now) us
