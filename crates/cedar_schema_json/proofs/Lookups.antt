-- What a look-up by index tells of the list.
use Rattle.std.proofs.Common.{◌≡◌, ℕ, ◌<◌, ◌≤◌, true, false, nat_lt, List, ◌∷◌, ◌+◌, drop, drop-cons, add-one, ap₂, length, get_or, Some, None, option_map, refl, sym, ap, ◌∙◌, arith, map}
use Rattle.std.specs.List.{slice_get}
use Rattle.std.proofs.lemmas.Option.{slice_get_read, slice_get_past, slice_get-map}
use Rattle.std.proofs.lemmas.Bool.Decides.{nat_tests}

below : (i n : ℕ) → true ≡ nat_lt i n → i < n
below i n h = grind (arith, nat_tests)

past : (i n : ℕ) → false ≡ nat_lt i n → n ≤ i
past i n h = grind (arith, nat_tests)

pub got : {A B : Type 0} (v : A → B) (xs : List A) (i : ℕ) (x : A) → true ≡ nat_lt i (length xs) → x ≡ get_or xs i x → slice_get (map v xs) i ≡ Some (v x)
got v xs i x h e = slice_get-map v xs i ∙ ap (option_map v) (slice_get_read xs (length xs) i x refl (below i (length xs) h) e)

pub got_none : {A B : Type 0} (v : A → B) (xs : List A) (i : ℕ) → false ≡ nat_lt i (length xs) → slice_get (map v xs) i ≡ None
got_none v xs i h = slice_get-map v xs i ∙ ap (option_map v) (slice_get_past xs i (past i (length xs) h))

pub drop_here : {A : Type 0} (xs : List A) (i : ℕ) (x : A) → i < length xs → x ≡ get_or xs i x → drop i xs ≡ x ∷ drop (i + 1) xs
drop_here {A} xs i x h e = drop-cons xs i x h ∙ ap₂ (λ (y : A) (n : ℕ). y ∷ drop n xs) (sym e) (sym (add-one i))
