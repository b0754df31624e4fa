-- Whether each key of an object is allowed, a member at a time.
use Rattle.std.proofs.Common.{◌≡◌, ℕ, true, false, List, Bool, Ordering, Less, Equal, Greater, nat_cmp, is_eq, refl, sym, ap, ◌∙◌}
use Rattle.std.specs.Prelude.{if◌then◌else◌}
use Rattle.std.specs.Ordering.{match_ordering}
use Rattle.std.specs.Cmp.Lexicographic.{slice_cmp}
use Rattle.std.proofs.lemmas.Map.Text.{is_eq-slice_cmp}
use Rattle.std.proofs.lemmas.Slice.Eq.{bytes_eq-Decides}
use Rattle.serde_json.specs.Data.{Data, Members, no_members, member, put}
use Rattle.cedar_conform_values.specs.Objects.{are_only}

swapped : (a b c : Bool) → (if a then (if b then c else false) else false) ≡ (if b then (if a then c else false) else false)
swapped true true c = refl
swapped true false c = refl
swapped false true c = refl
swapped false false c = refl

once : (a c : Bool) → (if a then c else false) ≡ (if a then (if a then c else false) else false)
once true c = refl
once false c = refl

module _ (may : List ℕ → Bool) (k : List ℕ) (d : Data) where
  abbrev Allows : Bool → Members → Type 0
  Allows b ms = b ≡ (if may k then are_only may ms else false)

  allows_at : (o : Ordering) (l : List ℕ) (e : Data) (ms : Members) → slice_cmp nat_cmp k l ≡ o → Allows (are_only may (put k d ms)) ms
      → Allows (are_only may (match_ordering o (member k d (member l e ms)) (member l d ms) (member l e (put k d ms)))) (member l e ms)
  allows_at Less l e ms is later = refl
  allows_at Equal l e ms is later =
      let same : k ≡ l = (bytes_eq-Decides k l).0 (sym (is_eq-slice_cmp k l) ∙ ap is_eq is) in
      once (may l) (are_only may ms) ∙ ap (λ (x : List ℕ). if may x then (if may l then are_only may ms else false) else false) (sym same)
  allows_at Greater l e ms is later = ap (λ b. if may l then b else false) later ∙ swapped (may l) (may k) (are_only may ms)

  pub are_only-put : (ms : Members) → Allows (are_only may (put k d ms)) ms
  are_only-put no_members = refl
  are_only-put (member l e ms) = allows_at _ l e ms refl (are_only-put ms)
