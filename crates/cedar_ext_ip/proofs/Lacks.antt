-- Texts that lack a character.
use Rattle.std.proofs.Common.{◌≡◌, ℕ, ◌<◌, ◌≤◌, Bool, true, false, ◌||◌, List, [], ◌∷◌, ◌++◌, refl, sym, ap, ◌∙◌, arith, ne_eqb}
use Rattle.std.specs.Bool.{◌==◌}
use Rattle.std.specs.List.{list_any}
use Rattle.std.specs.Char.{digit_value}
use Rattle.std.specs.Str.Parse.{AllDigits}
use Rattle.std.proofs.lemmas.List.Folds.{list_any-append}

-- The character is not in the text.
pub record Lacks (x : ℕ) (text : List ℕ) : Type 0 where
  pub none : list_any (λ c. c == x) text ≡ false

neither : (a b : Bool) → (a || b) ≡ false → (a ≡ false) × (b ≡ false)
neither true b e = absurd (cc)
neither false b e = (refl, e)

from_neither : (a b : Bool) → a ≡ false → b ≡ false → (a || b) ≡ false
from_neither true b p q = absurd (cc)
from_neither false b p q = q

pub Lacks-append : (x : ℕ) (a b : List ℕ) → Lacks x a → Lacks x b → Lacks x (a ++ b)
Lacks-append x a b h k = record { none = list_any-append (λ (c : ℕ). c == x) a b ∙ from_neither (list_any (λ (c : ℕ). c == x) a) (list_any (λ (c : ℕ). c == x) b) h.none k.none }

pub Lacks-parts : (x : ℕ) (a b : List ℕ) → Lacks x (a ++ b) → Lacks x a × Lacks x b
Lacks-parts x a b h =
    let parts = neither (list_any (λ (c : ℕ). c == x) a) (list_any (λ (c : ℕ). c == x) b) (sym (list_any-append (λ (c : ℕ). c == x) a b) ∙ h.none) in
    (record { none = parts.0 }, record { none = parts.1 })

other : (x c : ℕ) → (c ≡ x → ⊥) → (c == x) ≡ false
other x c h = ne_eqb c x h

pub Lacks-one : (x c : ℕ) → (c ≡ x → ⊥) → Lacks x (c ∷ [])
Lacks-one x c h = record { none = from_neither (c == x) false (other x c h) refl }

apart : (radix p q : ℕ) → radix ≤ q → p < radix → p ≡ q → ⊥
apart radix p q far less same = omega arith

pub Lacks-digits : (radix x : ℕ) (ds : List ℕ) → radix ≤ digit_value x → AllDigits radix ds → Lacks x ds
Lacks-digits radix x [] far d = record { none = refl }
Lacks-digits radix x (c ∷ ds) far d =
    let later = Lacks-digits radix x ds far d.1 in
    let differs : c ≡ x → ⊥ = λ e. apart radix (digit_value c) (digit_value x) far d.0 (ap digit_value e) in
    record { none = from_neither (c == x) (list_any (λ (y : ℕ). y == x) ds) (other x c differs) later.none }
