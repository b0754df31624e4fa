-- The words of a text tell whether it is a name.
use Rattle.std.proofs.Common.{◌≡◌, ℕ, suc, ◌<◌, ◌&&◌, ◌||◌, not, Bool, true, false, cond, nat_eq, List, [], ◌∷◌, ◌++◌, length, drop, refl, sym, ap, subst, ◌∙◌, arith, ◌↔◌, Option, Some, None, IsSome, IfSome, append_assoc, append-nil}
use Rattle.std.specs.List.{list_any}
use Rattle.std.proofs.lemmas.Bool.Decides.{nat_tests}
use Rattle.cedar_value.specs.Names.{IsName, words_from, is_name}
use Rattle.cedar_value.proofs.NameWords.{is_name-Decides}
use Rattle.cedar_value.proofs.Paths.{IsCut}
use Rattle.cedar_schema_json.specs.declared.schema_fault.SchemaFault.TheVariants.{Shape, ReservedName}
use Rattle.cedar_schema_json.specs.Faults.{Told}
use Rattle.cedar_schema_json.specs.Naming.{is_reserved as has_reserved, text_faults, fault_if}
use Rattle.cedar_schema_json.proofs.FormLemmas.{told_here, told_then}

pub text_fine : (s : List ℕ) → has_reserved s ≡ false → IsName s → text_faults s ≡ []
unfolding text_faults
text_fine s none name = λ i. fault_if (none i) ReservedName ++ fault_if (not ((is_name-Decides s).1 name i)) Shape

pub text_bad : (s : List ℕ) → (IsName s → ⊥) → Told (text_faults s) Shape
unfolding text_faults
text_bad s never = told_then (fault_if (has_reserved s) ReservedName) _ Shape (at (is_name s) refl)
  where
    at : (t : Bool) → is_name s ≡ t → Told (fault_if (not t) Shape) Shape
    at true e = absurd (never ((is_name-Decides s).0 e))
    at false e = told_here Shape

pub read_some : (s n : List ℕ) (o : Option (List ℕ)) (r : Bool) → r ≡ has_reserved s → r ≡ false → (IsSome o ↔ IsName s) → IfSome o (λ m. m ≡ s) → o ≡ Some n → (text_faults s ≡ []) × (n ≡ s)
read_some s n o r tested no' given path is =
    (text_fine s (sym tested ∙ no') (given.0 (subst (λ (x : Option (List ℕ)). IsSome x) (sym is) refl)), subst (λ (x : Option (List ℕ)). IfSome x (λ m. m ≡ s)) is path)

pub read_none : (s : List ℕ) (o : Option (List ℕ)) → (IsSome o ↔ IsName s) → o ≡ None → Told (text_faults s) Shape
read_none s o given is = text_bad s (λ name. let none : false ≡ true = subst (λ (x : Option (List ℕ)). IsSome x) is (given.1 name) in cc)

-- ---- the words of a text that is cut at its first `::`

colons : (b : ℕ) → nat_eq b 58 ≡ true → b ≡ 58
colons b e = grind (arith, nat_tests)

no_cut_here : (b c : ℕ) (s w : List ℕ) → (b ≡ 58 → c ≡ 58 → ⊥) → words_from w (b ∷ c ∷ s) ≡ words_from (w ++ b ∷ []) (c ∷ s)
no_cut_here b c s w no' = at (nat_eq b 58) (nat_eq c 58) refl refl
  where
    at : (x y : Bool) → nat_eq b 58 ≡ x → nat_eq c 58 ≡ y → cond (x && y) (w ∷ words_from [] s) (words_from (w ++ b ∷ []) (c ∷ s)) ≡ words_from (w ++ b ∷ []) (c ∷ s)
    at true true e f = absurd (no' (colons b e) (colons c f))
    at true false e f = refl
    at false y e f = refl

cut_words : (v w rest : List ℕ) → ((k : ℕ) → k < length v → (r : List ℕ) → drop k (v ++ (58 ∷ 58 ∷ rest)) ≡ 58 ∷ 58 ∷ r → ⊥) → words_from w (v ++ (58 ∷ 58 ∷ rest)) ≡ (w ++ v) ∷ words_from [] rest
cut_words [] w rest lacks = ap (λ x. x ∷ words_from [] rest) (sym (append-nil w))
cut_words (b ∷ []) w rest lacks =
    no_cut_here b 58 (58 ∷ rest) w (λ e f. lacks 0 (omega arith) (58 ∷ rest) (λ i. e i ∷ 58 ∷ 58 ∷ rest))
cut_words (b ∷ c ∷ v) w rest lacks =
    no_cut_here b c (v ++ (58 ∷ 58 ∷ rest)) w (λ e f. lacks 0 (omega arith) (v ++ (58 ∷ 58 ∷ rest)) (λ i. e i ∷ f i ∷ (v ++ (58 ∷ 58 ∷ rest))))
    ∙ cut_words (c ∷ v) (w ++ b ∷ []) rest (λ k lt r is. lacks (suc k) (omega arith) r is)
    ∙ ap (λ x. x ∷ words_from [] rest) (append_assoc w (b ∷ []) (c ∷ v))

one_word : (v w : List ℕ) → ((xs ys : List ℕ) → v ≡ xs ++ (58 ∷ 58 ∷ ys) → ⊥) → words_from w v ≡ (w ++ v) ∷ []
one_word [] w lacks = ap (λ x. x ∷ []) (sym (append-nil w))
one_word (b ∷ []) w lacks = refl
one_word (b ∷ c ∷ s) w lacks =
    no_cut_here b c s w (λ e f. lacks [] s (λ i. e i ∷ f i ∷ s))
    ∙ one_word (c ∷ s) (w ++ b ∷ []) (λ xs ys is. lacks (b ∷ xs) ys (λ i. b ∷ is i))
    ∙ ap (λ x. x ∷ []) (append_assoc w (b ∷ []) (c ∷ s))

pub cut_any : (f : List ℕ → Bool) (text word rest : List ℕ) → IsCut text word rest → list_any f (words_from [] text) ≡ (f word || list_any f (words_from [] rest))
cut_any f text word rest cut =
    ap (λ t. list_any f (words_from [] t)) cut.parts
    ∙ ap (list_any f) (cut_words word [] rest (subst (λ t. (k : ℕ) → k < length word → (r : List ℕ) → drop k t ≡ 58 ∷ 58 ∷ r → ⊥) cut.parts cut.is_first))

pub uncut_any : (f : List ℕ → Bool) (text : List ℕ) → ((xs ys : List ℕ) → text ≡ xs ++ (58 ∷ 58 ∷ ys) → ⊥) → list_any f (words_from [] text) ≡ f text
uncut_any f text none = ap (list_any f) (one_word text [] none) ∙ alone (f text)
  where
    alone : (b : Bool) → (b || false) ≡ b
    alone true = refl
    alone false = refl

pub or_true_first : (b c : Bool) → b ≡ true → (b || c) ≡ true
or_true_first b c h = ap (λ x. x || c) h

pub or_false_first : (b c : Bool) → b ≡ false → (b || c) ≡ c
or_false_first b c h = ap (λ x. x || c) h
