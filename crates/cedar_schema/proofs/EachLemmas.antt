-- A list is gone through one by one.
use Rattle.std.proofs.Common.{◌≡◌, ℕ, ◌+◌, ◌<◌, List, [], ◌∷◌, ◌++◌, drop, length, get_or, refl, sym, ap, ◌∙◌, subst}
use Rattle.cedar_schema_json.specs.declared.schema_fault.SchemaFault.{SchemaFault}
use Rattle.cedar_schema_json.specs.declared.json.entry.Entry.{Entry}
use Rattle.cedar_schema_json.specs.Faults.{Told}
use Rattle.cedar_schema.specs.Each.{each_faults, each_onto}
use Rattle.cedar_schema_json.specs.EntryView.{entries_view, entry_of}
use Rattle.cedar_schema_json.proofs.FormLemmas.{told_first}
use Rattle.cedar_schema_json.proofs.Lookups.{drop_here}

pub entries_here : (xs : List Entry) (i : ℕ) (x : Entry) → i < length xs → x ≡ get_or xs i x → entries_view (drop i xs) ≡ entry_of x ∷ entries_view (drop (i + 1) xs)
entries_here xs i x h e = ap entries_view (drop_here xs i x h e)

-- where it stands: what is left adds what all adds, and has the faults that all has
pub record IsGoing {A B : Type 0} (add : List B → A → List B) (f : A → List SchemaFault) (done : List B) (left all : List A) : Type 0 where
  pub list : each_onto add done left ≡ each_onto add [] all
  pub faults : each_faults f all ≡ each_faults f left

pub going_start : {A B : Type 0} (add : List B → A → List B) (f : A → List SchemaFault) (done : List B) (all : List A) → done ≡ [] → IsGoing add f done all all
going_start add f done all none = record { list = ap (λ d. each_onto add d all) none; faults = refl }

pub going_more : {A B : Type 0} (add : List B → A → List B) (f : A → List SchemaFault) (done new : List B) (before left all : List A) (x : A) → before ≡ x ∷ left → new ≡ add done x → f x ≡ [] → IsGoing add f done before all → IsGoing add f new left all
unfolding each_onto each_faults
going_more {A} {B} add f done new before left all x is made none g = record {
  list = ap (λ (d : List B). each_onto add d left) made ∙ ap (λ (b : List A). each_onto add done b) (sym is) ∙ g.list;
  faults = g.faults ∙ ap (each_faults f) is ∙ ap (λ (fs : List SchemaFault). fs ++ each_faults f left) none;
}

pub going_refused : {A B : Type 0} (add : List B → A → List B) (f : A → List SchemaFault) (done : List B) (before left all : List A) (x : A) (e : SchemaFault) → before ≡ x ∷ left → Told (f x) e → IsGoing add f done before all → Told (each_faults f all) e
unfolding each_faults
going_refused add f done before left all x e is told g = subst (λ (fs : List SchemaFault). Told fs e) (sym (g.faults ∙ ap (each_faults f) is)) (told_first (f x) _ e told)

pub going_end : {A B : Type 0} (add : List B → A → List B) (f : A → List SchemaFault) (done : List B) (left all : List A) → left ≡ [] → IsGoing add f done left all → (each_faults f all ≡ []) × (done ≡ each_onto add [] all)
unfolding each_onto each_faults
going_end {A} add f done left all none g = (g.faults ∙ ap (each_faults f) none, ap (λ (b : List A). each_onto add done b) (sym none) ∙ g.list)

-- ---- faults alone
pub faults_more : {A : Type 0} (f : A → List SchemaFault) (all before left : List A) (x : A) → before ≡ x ∷ left → f x ≡ [] → each_faults f all ≡ each_faults f before → each_faults f all ≡ each_faults f left
unfolding each_faults
faults_more f all before left x is none so_far = so_far ∙ ap (each_faults f) is ∙ ap (λ (fs : List SchemaFault). fs ++ each_faults f left) none

pub faults_refused : {A : Type 0} (f : A → List SchemaFault) (all before left : List A) (x : A) (e : SchemaFault) → before ≡ x ∷ left → Told (f x) e → each_faults f all ≡ each_faults f before → Told (each_faults f all) e
unfolding each_faults
faults_refused f all before left x e is told so_far = subst (λ (fs : List SchemaFault). Told fs e) (sym (so_far ∙ ap (each_faults f) is)) (told_first (f x) _ e told)

pub faults_end : {A : Type 0} (f : A → List SchemaFault) (all left : List A) → left ≡ [] → each_faults f all ≡ each_faults f left → each_faults f all ≡ []
unfolding each_faults
faults_end f all left none so_far = so_far ∙ ap (each_faults f) none
