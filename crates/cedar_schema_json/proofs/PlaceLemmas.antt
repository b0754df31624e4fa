-- A name more, before the others, comes to its place.
use Rattle.std.proofs.Common.{◌≡◌, ℕ, suc, ◌<◌, List, ◌∷◌, length, drop, get_or, Some, cond, sym, ap, ap₂, ◌∙◌, drop-cons}
use Rattle.std.specs.BTreeMap.{BTreeMap, get, Updates}
use Rattle.cedar_value.specs.Order.{text_cmp}
use Rattle.cedar_value.specs.Private.Laws.{text_ties}
use Rattle.cedar_schema_json.specs.Naming.{place_from}

pub placed_more : (old new : BTreeMap (List ℕ) ℕ) (names : List (List ℕ)) (i : ℕ) (x : List ℕ) → i < length names → x ≡ get_or names i x → Updates text_cmp old new x (Some i)
    → ((k : List ℕ) → get text_cmp old k ≡ place_from (suc i) k (drop (suc i) names)) → (k : List ℕ) → get text_cmp new k ≡ place_from i k (drop i names)
placed_more old new names i x within is updates before k =
    updates.0 k
    ∙ ap₂ (λ t o. cond t (Some i) o) (sym (text_ties x k)) (before k)
    ∙ ap (place_from i k) (sym (drop-cons names i x within ∙ ap (λ y. y ∷ drop (suc i) names) (sym is)))
