-- Digits have one worth.
use Rattle.std.proofs.Common.{◌≡◌, refl, ap, ◌∙◌, arith, ℕ, ◌+◌, ◌*◌, ◌-◌, List, [], ◌∷◌}
use Rattle.cedar_ext.specs.Decimals.{number_after}
use Rattle.cedar_text.specs.Numbers.{decimal_from}

pub one_worth : (n : ℕ) (digits : List ℕ) → number_after n digits ≡ decimal_from n digits
one_worth n [] = refl
one_worth n (d ∷ digits) =
    one_worth (n * 10 + (d - 48)) digits ∙ ap (λ m. decimal_from m digits) (let e : n * 10 + (d - 48) ≡ 10 * n + (d - 48) = omega arith in e)
