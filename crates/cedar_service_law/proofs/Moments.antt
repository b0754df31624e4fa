-- Histories with one more moment.
use Rattle.std.proofs.Common.{◌≡◌, ℕ, ◌+◌, Bool, true, false, ◌||◌, cond, [], ◌∷◌, ◌++◌, Option, Some, None, count_by, refl, ap, ◌∙◌}
use Rattle.std.specs.List.{list_any}
use Rattle.std.specs.Option.{option_or}
use Rattle.std.proofs.lemmas.List.Sums.{sum_by_push}
use Rattle.std.proofs.lemmas.List.Folds.{list_any-append}
use Rattle.cedar_auth_spec.specs.Ready.{ReadyTree}
use Rattle.cedar_service_law.specs.Histories.{Moment, History, version_after, current_after, Opening, opening_by, opening_of}

pub count_more : (test : Moment → Bool) (h : History) (m : Moment) → count_by test (h ++ m ∷ []) ≡ count_by test h + cond (test m) 1 0
count_more test h m = sum_by_push (λ (x : Moment). cond (test x) 1 0) h m

pub or_false : (b : Bool) → (b || false) ≡ b
or_false true = refl
or_false false = refl

pub any_more : (test : Moment → Bool) (h : History) (m : Moment) → list_any test (h ++ m ∷ []) ≡ (list_any test h || test m)
any_more test h m = list_any-append test h (m ∷ []) ∙ ap (λ (b : Bool). list_any test h || b) (or_false (test m))

pub current_more : (v : ReadyTree) (h : History) (m : Moment) → current_after v (h ++ m ∷ []) ≡ version_after (current_after v h) m
current_more v [] m = refl
current_more v (x ∷ h) m = current_more (version_after v x) h m

pub or_none : (o : Option Opening) → option_or o None ≡ o
or_none None = refl
or_none (Some x) = refl

or_assoc : (a b c : Option Opening) → option_or a (option_or b c) ≡ option_or (option_or a b) c
or_assoc None b c = refl
or_assoc (Some x) b c = refl

pub opening_more : (v : ReadyTree) (h : History) (m : Moment) (j : ℕ)
    → opening_of v (h ++ m ∷ []) j ≡ option_or (opening_of v h j) (opening_by (current_after v h) m j)
opening_more v [] m j = or_none (opening_by v m j)
opening_more v (x ∷ h) m j =
    ap (λ (o : Option Opening). option_or (opening_by v x j) o) (opening_more (version_after v x) h m j)
    ∙ or_assoc (opening_by v x j) (opening_of (version_after v x) h j) (opening_by (current_after (version_after v x) h) m j)
