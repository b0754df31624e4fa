-- What a common type says is what the form after its names says.
use Rattle.std.proofs.Common.{◌≡◌, ℕ, zero, suc, ◌+◌, ◌≤◌, ◌⊎◌, inl, inr, List, [], ◌∷◌, ◌++◌, length, Some, None, option_map, option_and_then, unwrap_or, refl, sym, ap, ◌∙◌, subst, arith, Contains, lit<, rules}
use Rattle.std.specs.List.{slice_get}
use Rattle.cedar_schema_json.specs.declared.form.Form.{the_lemmas}
use Rattle.cedar_schema_json.specs.declared.form.Form.TheVariants.{Common}
use Rattle.cedar_schema_json.specs.declared.schema_fault.SchemaFault.TheVariants.{UnknownType, CommonCycle}
use Rattle.cedar_schema_json.specs.Forms.{FormTree, no_form, common_form}
use Rattle.cedar_schema_json.specs.FormView.{form_of}
use Rattle.cedar_schema_json.specs.Expansion.{Table, form_size, form_type, form_faults, common_size, common_type, cycle_faults, size}
use Rattle.cedar_schema_json.specs.Ends.{Leads, stays, goes, AreEnds}
use Rattle.cedar_schema_json.specs.Private.Behind.{StandsBehind, IsNothing, LeadsTooFar}

-- one place more is followed
abbrev Same : Table → ℕ → ℕ → ℕ → ℕ → Type 0
Same t n i m j = (common_size t n i ≡ common_size t m j) × (common_type t n i ≡ common_type t m j) × (cycle_faults t n i ≡ cycle_faults t m j)

one_more : (t : Table) (n i k : ℕ) → slice_get t i ≡ Some (common_form k) → Same t (suc n) i n k
unfolding common_size common_type cycle_faults
one_more t n i k e = (
  ap (λ o. form_size (common_size t n) (unwrap_or o no_form)) e,
  ap (λ o. option_and_then (form_type (common_type t n)) o) e,
  ap (λ o. unwrap_or (option_map (form_faults (cycle_faults t n)) o) (UnknownType ∷ [])) e,
)

follow : (t : Table) {i n j : ℕ} (m : ℕ) → Leads t i n j → Same t (n + m) i m j
follow t {i = i} m stays = let e : 0 + m ≡ m = omega arith in (ap (λ x. common_size t x i) e, ap (λ x. common_type t x i) e, ap (λ x. cycle_faults t x i) e)
follow t {i = i} m (goes {k = k} {n = n} l rest) =
    let e : suc n + m ≡ suc (n + m) = omega arith in
    let p = one_more t (n + m) i k l in
    let q = follow t m rest in
    (ap (λ x. common_size t x i) e ∙ p.0 ∙ q.0, ap (λ x. common_type t x i) e ∙ p.1 ∙ q.1, ap (λ x. cycle_faults t x i) e ∙ p.2 ∙ q.2)

here : (t : Table) (m j : ℕ) (f : FormTree) → slice_get t j ≡ Some f
    → (common_size t (suc m) j ≡ size t m f) × (common_type t (suc m) j ≡ form_type (common_type t m) f) × (cycle_faults t (suc m) j ≡ form_faults (cycle_faults t m) f)
unfolding common_size common_type cycle_faults
here t m j f e = (
  ap (λ o. form_size (common_size t m) (unwrap_or o no_form)) e,
  ap (λ o. option_and_then (form_type (common_type t m)) o) e,
  ap (λ o. unwrap_or (option_map (form_faults (cycle_faults t m)) o) (UnknownType ∷ [])) e,
)

absent : (t : Table) (m j : ℕ) → slice_get t j ≡ None → cycle_faults t (suc m) j ≡ UnknownType ∷ []
unfolding cycle_faults
absent t m j e = ap (λ o. unwrap_or (option_map (form_faults (cycle_faults t m)) o) (UnknownType ∷ [])) e

pub stands_behind : (t : Table) (n i c j m : ℕ) (f : FormTree) → Leads t i c j → n ≡ c + suc m → slice_get t j ≡ Some f → StandsBehind t n i m f
stands_behind t n i c j m f l e found =
    let p = follow t (suc m) l in
    let q = here t m j f found in
    record {
      same_size = ap (λ x. common_size t x i) e ∙ p.0 ∙ q.0;
      same_type = ap (λ x. common_type t x i) e ∙ p.1 ∙ q.1;
      same_faults = ap (λ x. cycle_faults t x i) e ∙ p.2 ∙ q.2;
      fewer = omega arith;
      at = j;
      found = found;
    }

pub is_nothing : (t : Table) (n i c j m : ℕ) → Leads t i c j → n ≡ c + suc m → slice_get t j ≡ None → IsNothing t n i
is_nothing t n i c j m l e none =
    let p = follow t (suc m) l in
    let is : cycle_faults t n i ≡ UnknownType ∷ [] = ap (λ x. cycle_faults t x i) e ∙ p.2 ∙ absent t m j none in
    record { unknown = subst (λ fs. Contains fs UnknownType) (sym is) (0, lit< tt, refl) }

too_far : (t : Table) (n : ℕ) {i c j : ℕ} → Leads t i c j → n ≤ c → Contains (cycle_faults t n i) CommonCycle
unfolding cycle_faults
too_far t zero l h = (0, lit< tt, refl)
too_far t (suc n) stays h = absurd (omega arith)
too_far t (suc n) (goes {i = i} {k = k} e rest) h = subst (λ fs. Contains fs CommonCycle) (sym (one_more t n i k e).2) (too_far t n rest (omega arith))

pub leads_too_far : (t : Table) (n i c j : ℕ) → Leads t i c j → n ≤ c → LeadsTooFar t n i
leads_too_far t n i c j l h = record { cycle = too_far t n l h }

pub leads_on : (t : Table) {i n j m k : ℕ} → Leads t i n j → Leads t j m k → (s : ℕ) → s ≡ n + m → Leads t i s k
leads_on t {i = i} {m = m} {k = k} stays l s e = subst (λ x. Leads t i x k) (let f : m ≡ s = omega arith in f) l
leads_on t {i = i} {m = m} {k = k} (goes {n = n} e rest) l s is = subst (λ x. Leads t i x k) (let f : suc (n + m) ≡ s = omega arith in f) (goes e (leads_on t rest l (n + m) refl))

pub form_of-Common : (k : ℕ) → form_of (Common k) ≡ common_form k
form_of-Common k = search (rules, the_lemmas)

pub leads_one : (t : Table) (i k : ℕ) → slice_get t i ≡ Some (common_form k) → Leads t i 1 k
leads_one t i k e = goes e stays

at_end : {A : Type 0} (xs : List A) (x : A) (i : ℕ) (e : A) → slice_get (xs ++ x ∷ []) i ≡ Some e → (slice_get xs i ≡ Some e) ⊎ ((i ≡ length xs) × (x ≡ e))
at_end [] x zero e h = inr (refl, cc)
at_end [] x (suc i) e h = cc
at_end (y ∷ xs) x zero e h = inl h
at_end (y ∷ xs) x (suc i) e h = elim (at_end xs x i e h) [ inl a ↦ inl a | inr b ↦ inr (ap suc b.0, b.1) ]

pub ends_push : (t : Table) (xs : List (ℕ × ℕ)) (x : ℕ × ℕ) (n : ℕ) → AreEnds t xs → length xs ≡ n → Leads t n x.1 x.0 → AreEnds t (xs ++ x ∷ [])
ends_push t xs x n all size l i e h = elim (at_end xs x i e h) [
  | inl a ↦ all i e a
  | inr b ↦ (let at_i : Leads t i x.1 x.0 = subst (λ k. Leads t k x.1 x.0) (sym size ∙ sym b.0) l in subst (λ y. Leads t i y.1 y.0) b.1 at_i)
]

pub no_ends : (t : Table) (xs : List (ℕ × ℕ)) → xs ≡ [] → AreEnds t xs
no_ends t xs none i e h = let no : slice_get [] i ≡ Some e = subst (λ ys. slice_get ys i ≡ Some e) none h in cc
