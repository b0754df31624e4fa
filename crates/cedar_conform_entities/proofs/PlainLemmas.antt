-- Entries in the plain form.
use Rattle.std.proofs.Common.{◌≡◌, ℕ, zero, suc, ◌<◌, true, false, List, [], ◌∷◌, length, drop, Bool, Option, Some, None, option_map, unwrap_or, refl, sym, ap, ◌∙◌, arith}
use Rattle.std.specs.Prelude.{◌&&◌, if◌then◌else◌, is_some}
use Rattle.std.specs.List.{list_all}
use Rattle.std.proofs.lemmas.List.{length-drop}
use Rattle.serde_json.specs.Data.{Data, Members, put}
use Rattle.base_json.specs.LentItems.{item_of, put_values, value_view}
use Rattle.base_json.specs.Lists.{ComesNext, IsNext}
use Rattle.base_json.specs.declared.lent_item.ItemMember.{ItemMember}
use Rattle.cedar_conform_values.specs.Objects.{are_only}
use Rattle.cedar_conform_values.proofs.OnlyKeys.{are_only-put}

both : (a b : Bool) → (a && b) ≡ true → (a ≡ true) × (b ≡ true)
both true b e = (refl, e)
both false b e = cc

-- where each key that is written is allowed, each key of the object is
pub are_only-put_values : (may : List ℕ → Bool) (ms : List ItemMember) (old : Members) → are_only may old ≡ true → list_all (λ m. may m.key.now) ms ≡ true → are_only may (put_values ms old) ≡ true
are_only-put_values may [] old e all = e
are_only-put_values may (m ∷ ms) old e all =
    let (one, others) = both (may m.key.now) (list_all (λ (n : ItemMember). may n.key.now) ms) all in
    are_only-put_values may ms (put m.key.now (value_view m.value) old)
    (are_only-put may m.key.now (value_view m.value) old ∙ ap (λ b. if b then are_only may old else false) one ∙ e) others

-- ---- the rest of a list

-- an item is not empty
pub passes_some : (text : List ℕ) (passed : ℕ) (bytes : List ℕ) (d : Data) → ComesNext text passed bytes → item_of text ≡ Some d → length (drop passed bytes) < length bytes
passes_some text zero bytes d next read = let less = next.shorter d read in let never : ⊥ = omega (arith, less) in absurd never
passes_some text (suc n) [] d next read = let less = next.shorter d read in let never : ⊥ = omega (arith, less) in absurd never
passes_some text (suc n) (x ∷ xs) d next read = let short = length-drop n xs in omega (arith, short)

pub passes_next : (passed : ℕ) (bytes : List ℕ) (d : Data) → IsNext d passed bytes → length (drop passed bytes) < length bytes
passes_next zero bytes d next = let never : ⊥ = omega (arith, next.shorter) in absurd never
passes_next (suc n) [] d next = let never : ⊥ = omega (arith, next.shorter) in absurd never
passes_next (suc n) (x ∷ xs) d next = let short = length-drop n xs in omega (arith, short)

-- ---- a key that is absent

pub nothing_there : {B : Type 0} (f : B → Data) (o : Option B) (found : Option Data) (d : Data) → option_map f o ≡ found → is_some o ≡ false → unwrap_or found d ≡ d
nothing_there f None found d e none = ap (λ (x : Option Data). unwrap_or x d) (sym e)
nothing_there f (Some x) found d e none = cc
