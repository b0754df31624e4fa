-- Depths of forms, and lists of fields from a place on.
use Rattle.std.proofs.Common.{◌≡◌, ℕ, zero, suc, ◌+◌, ◌*◌, ◌<◌, ◌≤◌, max, Bool, true, false, List, [], ◌∷◌, ◌++◌, drop, length, get_or, Option, Some, rules, Result, Ok, Err, Contains, nat_le, inl, inr, ◌⊎◌, ◌&&◌, refl, sym, ap, ap₂, ◌∙◌, subst, arith, add-one, drop-cons, cond}
use Rattle.std.proofs.Math.Nat.{mul-le-mul_right}
use Rattle.std.proofs.lemmas.Bool.Decides.{nat_tests}
use Rattle.std.proofs.lemmas.List.Elements.{Contains-append_left}
use Rattle.std.specs.List.{slice_get}
use Rattle.cedar_schema_json.specs.declared.schema_fault.SchemaFault.{SchemaFault}
use Rattle.cedar_schema_json.specs.declared.schema_fault.SchemaFault.TheVariants.{TooLarge}
use Rattle.cedar_schema_json.specs.declared.form.FormField.{FormField}
use Rattle.cedar_schema_json.specs.declared.form.Form.{the_lemmas}
use Rattle.cedar_schema_types.specs.declared.attribute.Attribute.{Attribute}
use Rattle.cedar_schema_json.specs.Faults.{Told}
use Rattle.cedar_schema_json.specs.Forms.{FormTree, set_form, record_form, FormRows, no_form_rows, form_row}
use Rattle.cedar_schema_json.specs.FormView.{form_of}
use Rattle.cedar_schema_json.specs.Private.FieldView.{field_of, fields_view}
use Rattle.cedar_schema_types.specs.Ordered.{with_attribute}
use Rattle.cedar_schema_types.specs.Types.{TypeTree, Attributes, no_attributes}
use Rattle.cedar_schema_json.specs.Expansion.{Table, Size, form_size, form_type, form_faults, rows_type, rows_size, rows_faults, with_row, size, limit_faults, typed}
use Rattle.cedar_schema_json.specs.Private.Expanding.{expanded}
use Rattle.cedar_schema_json.specs.Private.Measures.{IsOver}
use Rattle.cedar_schema_json.specs.TableView.{Expands}
use Rattle.cedar_schema_json.proofs.FormLemmas.{told_first, told_then, told_here}

-- how deep a form itself nests
abbrev mutual
  pub own : FormTree → ℕ
  own (set_form f) = suc (own f)
  own (record_form rs) = suc (own_rows rs)
  own _ = 1

  pub own_rows : FormRows → ℕ
  own_rows no_form_rows = 0
  own_rows (form_row k r f rs) = max (own f) (own_rows rs)

abbrev pub most : Table → ℕ
most [] = 0
most (f ∷ t) = max (own f) (most t)

pub most_at : (t : Table) (j : ℕ) (f : FormTree) → slice_get t j ≡ Some f → own f ≤ most t
most_at [] j f e = cc
most_at (g ∷ t) zero f e = let same : g ≡ f = cc in subst (λ x. own x ≤ max (own g) (most t)) same (omega arith)
most_at (g ∷ t) (suc j) f e = let p = most_at t j f e in omega arith

-- fields from a place on
pub here_and_on : (a : List FormField) (i : ℕ) (x : FormField) → i < length a → x ≡ get_or a i x → drop i a ≡ x ∷ drop (i + 1) a
here_and_on a i x h e = drop-cons a i x h ∙ ap₂ (λ (y : FormField) (n : ℕ). y ∷ drop n a) (sym e) (sym (add-one i))

pub rows_here : (a : List FormField) (i : ℕ) (x : FormField) → i < length a → x ≡ get_or a i x → fields_view (drop i a) ≡ form_row (field_of x).name (field_of x).required (field_of x).form (fields_view (drop (i + 1) a))
rows_here a i x h e = ap fields_view (here_and_on a i x h e)

pub own_here : (a : List FormField) (i : ℕ) (x : FormField) → i < length a → x ≡ get_or a i x → own (field_of x).form ≤ own_rows (fields_view a)
own_here [] i x h e = absurd (omega arith)
own_here (y ∷ a) zero x h e = let same : own (field_of x).form ≡ own (field_of y).form = ap (λ z. own (field_of z).form) e in omega arith
own_here (y ∷ a) (suc i) x h e = let p = own_here a i x (omega arith) e in omega arith

pub field-form : (x : FormField) → (field_of x).form ≡ form_of x.form
field-form x = search (rules, the_lemmas)

pub nodes_here : (names : ℕ → Size) (a : List FormField) (i : ℕ) (x : FormField) → i < length a → x ≡ get_or a i x
    → (rows_size names (fields_view (drop i a))).nodes ≡ (form_size names (form_of x.form)).nodes + (rows_size names (fields_view (drop (i + 1) a))).nodes
nodes_here names a i x h e =
    ap (λ (rs : FormRows). (rows_size names rs).nodes) (rows_here a i x h e) ∙ ap (λ (f : FormTree). (form_size names f).nodes + (rows_size names (fields_view (drop (i + 1) a))).nodes) (field-form x)

pub height_here : (names : ℕ → Size) (a : List FormField) (i : ℕ) (x : FormField) → i < length a → x ≡ get_or a i x
    → (rows_size names (fields_view (drop i a))).height ≡ max (form_size names (form_of x.form)).height (rows_size names (fields_view (drop (i + 1) a))).height
height_here names a i x h e =
    ap (λ (rs : FormRows). (rows_size names rs).height) (rows_here a i x h e) ∙ ap (λ (f : FormTree). max (form_size names f).height (rows_size names (fields_view (drop (i + 1) a))).height) (field-form x)

pub own_form_here : (a : List FormField) (i : ℕ) (x : FormField) → i < length a → x ≡ get_or a i x → own (form_of x.form) ≤ own_rows (fields_view a)
own_form_here a i x h e = subst (λ f. own f ≤ own_rows (fields_view a)) (field-form x) (own_here a i x h e)

-- ---- an attribute more

row_type : (names : ℕ → Option TypeTree) (done : Option Attributes) (a : List FormField) (i : ℕ) (x : FormField) → i < length a → x ≡ get_or a i x
    → rows_type names done (fields_view (drop i a)) ≡ rows_type names (with_row (field_of x).name (field_of x).required (form_type names (form_of x.form)) done) (fields_view (drop (i + 1) a))
row_type names done a i x h e = ap (rows_type names done) (rows_here a i x h e) ∙ ap (λ f. rows_type names (with_row (field_of x).name (field_of x).required (form_type names f) done) (fields_view (drop (i + 1) a))) (field-form x)

row_faults : (names : ℕ → List SchemaFault) (a : List FormField) (i : ℕ) (x : FormField) → i < length a → x ≡ get_or a i x
    → rows_faults names (fields_view (drop i a)) ≡ form_faults names (form_of x.form) ++ rows_faults names (fields_view (drop (i + 1) a))
row_faults names a i x h e = ap (rows_faults names) (rows_here a i x h e) ∙ ap (λ f. form_faults names f ++ rows_faults names (fields_view (drop (i + 1) a))) (field-form x)

one_row : (k l : List ℕ) (r q : Bool) (t : TypeTree) (o : Option TypeTree) (done next : Attributes) → l ≡ k → q ≡ r → Some t ≡ o → next ≡ with_attribute l q t done → with_row k r o (Some done) ≡ Some next
one_row k l r q t o done next name needed ty is =
    ap (λ (p : Option TypeTree). with_row k r p (Some done)) (sym ty)
    ∙ ap (λ (m : List ℕ). Some (with_attribute m r t done)) (sym name)
    ∙ ap (λ (b : Bool). Some (with_attribute l b t done)) (sym needed)
    ∙ ap Some (sym is)

pub attribute_made : (names : ℕ → Option TypeTree) (a : List FormField) (i : ℕ) (x : FormField) (f : Attribute) (done next : Attributes) (W : Option Attributes) → i < length a → x ≡ get_or a i x
    → (f.name ≡ (field_of x).name) × (f.required ≡ (field_of x).required) × (Some f.ty ≡ form_type names (form_of x.form)) → next ≡ with_attribute f.name f.required f.ty done
    → rows_type names (Some done) (fields_view (drop i a)) ≡ W → rows_type names (Some next) (fields_view (drop (i + 1) a)) ≡ W
attribute_made names a i x f done next W h e made is all =
    ap (λ (o : Option Attributes). rows_type names o (fields_view (drop (i + 1) a))) (sym (one_row (field_of x).name f.name (field_of x).required f.required f.ty (form_type names (form_of x.form)) done next made.0 made.1 made.2 is))
    ∙ sym (row_type names (Some done) a i x h e) ∙ all

pub attribute_refused : (names : ℕ → List SchemaFault) (a : List FormField) (i : ℕ) (x : FormField) (fs : List SchemaFault) (e : SchemaFault) → i < length a → x ≡ get_or a i x
    → fs ≡ rows_faults names (fields_view (drop i a)) → Told (form_faults names (form_of x.form)) e → Told fs e
attribute_refused names a i x fs e h is all t =
    subst (λ xs. Told xs e) (sym (all ∙ row_faults names a i x h is)) (told_first _ _ e t)

pub rows_clean : (names : ℕ → List SchemaFault) (a : List FormField) (i : ℕ) (x : FormField) → i < length a → x ≡ get_or a i x → form_faults names (form_of x.form) ≡ []
    → rows_faults names (fields_view (drop i a)) ≡ rows_faults names (fields_view (drop (i + 1) a))
rows_clean names a i x h e none = row_faults names a i x h e ∙ ap (λ (fs : List SchemaFault). fs ++ rows_faults names (fields_view (drop (i + 1) a))) none

pub made_all : (names : ℕ → Option TypeTree) (faults : ℕ → List SchemaFault) (a all : List FormField) (done : Attributes) → a ≡ [] → rows_type names (Some done) (fields_view a) ≡ rows_type names (Some no_attributes) (fields_view all)
    → rows_faults faults (fields_view all) ≡ rows_faults faults (fields_view a) → (rows_faults faults (fields_view all) ≡ []) × (Some done ≡ rows_type names (Some no_attributes) (fields_view all))
made_all names faults a all done e types fine =
    (fine ∙ ap (λ (xs : List FormField). rows_faults faults (fields_view xs)) e, ap (λ (xs : List FormField). rows_type names (Some done) (fields_view xs)) (sym e) ∙ types)

-- one name less, or more, is less, whatever the form after it
pub name_less : (m n most_of h : ℕ) → m < n → h ≤ most_of → m * (most_of + 1) + h < n * (most_of + 1)
name_less m zero most_of h e le = absurd (omega arith)
name_less m (suc n) most_of h e le =
    let p : m * (most_of + 1) ≤ n * (most_of + 1) = grind (arith, mul-le-mul_right) in
    omega (arith, p)

-- ---- what has no room among rows has none in all of them
pub over_row : (e : SchemaFault) (room left levels later nodes_here higher height_here : ℕ) (s all : Size) (f fs : List SchemaFault) → left + all.nodes ≡ room + nodes_here → nodes_here ≡ s.nodes + later → height_here ≡ max s.height higher → height_here ≤ all.height
    → (Contains f e → Contains fs e) → IsOver e left levels s f → IsOver e room levels all fs
over_row e room left levels later nodes_here higher height_here s all f fs counted split high within faults over = elim over [
  | inl large ↦ inl (large.0, elim large.1 [ inl less ↦ inl (omega arith) | inr less ↦ inr (omega arith) ])
  | inr has ↦ inr (faults has)
]

pub rows_has : (names : ℕ → List SchemaFault) (a : List FormField) (i : ℕ) (x : FormField) (fs : List SchemaFault) (e : SchemaFault) → i < length a → x ≡ get_or a i x → fs ≡ rows_faults names (fields_view (drop i a))
    → Contains (form_faults names (form_of x.form)) e → Contains fs e
rows_has names a i x fs e h here is has =
    subst (λ (xs : List SchemaFault). Contains xs e) (sym (is ∙ row_faults names a i x h here)) (Contains-append_left _ _ e has)

-- ---- the limits
limits_kept : (n h : ℕ) → n ≤ 10000 → h ≤ 100 → cond (nat_le n 10000 && nat_le h 100) [] (TooLarge ∷ []) ≡ []
limits_kept n h p q = at (nat_le n 10000) (nat_le h 100) (grind (arith, nat_tests)) (grind (arith, nat_tests))
  where
    at : (a b : Bool) → a ≡ true → b ≡ true → cond (a && b) [] (TooLarge ∷ []) ≡ []
    at true true p q = refl
    at true false p q = cc
    at false b p q = cc

limits_broken : (n h : ℕ) → (10000 < n) ⊎ (100 < h) → cond (nat_le n 10000 && nat_le h 100) [] (TooLarge ∷ []) ≡ TooLarge ∷ []
limits_broken n h (inl p) = ap (λ a. cond (a && nat_le h 100) [] (TooLarge ∷ [])) (past p)
  where
    past : {n : ℕ} → 10000 < n → nat_le n 10000 ≡ false
    past h = grind (arith, nat_tests)
limits_broken n h (inr p) = last (nat_le n 10000) (past p)
  where
    past : {n : ℕ} → 100 < n → nat_le n 100 ≡ false
    past h = grind (arith, nat_tests)

    last : (a : Bool) {b : Bool} → b ≡ false → cond (a && b) [] (TooLarge ∷ []) ≡ TooLarge ∷ []
    last true e = ap (λ b. cond b [] (TooLarge ∷ [])) e
    last false e = refl

pub judged_fine : (t : Table) (f : FormTree) (n left : ℕ) → length t ≡ n → (left + (size t n f).nodes ≡ 10000) × ((size t n f).height ≤ 100) × ((expanded t n f).faults ≡ []) → (typed t f).faults ≡ []
unfolding typed
judged_fine t f n left e h =
    let p : (left + (size t (length t) f).nodes ≡ 10000) × ((size t (length t) f).height ≤ 100) × ((expanded t (length t) f).faults ≡ []) =
    subst (λ (x : ℕ). (left + (size t x f).nodes ≡ 10000) × ((size t x f).height ≤ 100) × ((expanded t x f).faults ≡ [])) (sym e) h in
    let few : (size t (length t) f).nodes ≤ 10000 = omega (arith, p.0) in
    λ i. limits_kept (size t (length t) f).nodes (size t (length t) f).height few p.1 i ++ p.2 i

pub judged_over : (t : Table) (f : FormTree) (n : ℕ) (e : SchemaFault) → length t ≡ n → IsOver e 10000 100 (size t n f) (expanded t n f).faults → Told (typed t f).faults e
unfolding typed
judged_over t f n e same over = at (subst (λ (x : ℕ). IsOver e 10000 100 (size t x f) (expanded t x f).faults) (sym same) over)
  where
    at : IsOver e 10000 100 (size t (length t) f) (expanded t (length t) f).faults → Told (limit_faults t f ++ (expanded t (length t) f).faults) e
    at (inl large) =
        told_first (limit_faults t f) _ e (subst (λ (xs : List SchemaFault). Told xs e) (sym (limits_broken (size t (length t) f).nodes (size t (length t) f).height large.1)) (subst (λ x. Told (TooLarge ∷ []) x) (sym large.0) (told_here TooLarge)))
    at (inr has) = told_then (limit_faults t f) _ e (λ _. has)

pub built : (t : Table) (f : FormTree) (n : ℕ) (r : Result TypeTree SchemaFault) → length t ≡ n → (typed t f).faults ≡ [] → Expands r (expanded t n f) → Expands r (typed t f)
unfolding typed
built t f n (Ok ty) e none x = (none, x.1 ∙ ap (λ (m : ℕ). (expanded t m f).ty) (sym e))
built t f n (Err fault) e none x = told_then (limit_faults t f) _ fault (subst (λ (m : ℕ). Told (expanded t m f).faults fault) (sym e) x)
