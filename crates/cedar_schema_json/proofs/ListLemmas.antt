-- A list is read item by item.
use Rattle.std.proofs.Common.{◌≡◌, ℕ, ◌+◌, ◌<◌, List, [], ◌∷◌, ◌++◌, drop, length, get_or, refl, sym, ap, ◌∙◌, subst, append_assoc, append-nil}
use Rattle.serde_json.specs.Data.{Data, Items, no_items, item}
use Rattle.serde_json.specs.View.{view, items_view}
use Rattle.serde_json.specs.declared.value.Value.{Value}
use Rattle.cedar_schema_json.specs.declared.schema_fault.SchemaFault.{SchemaFault}
use Rattle.cedar_schema_json.specs.Faults.{Told}
use Rattle.cedar_schema_json.specs.Lists.{ListRead, each_read}
use Rattle.cedar_schema_json.proofs.FormLemmas.{told_first}
use Rattle.cedar_schema_json.proofs.Lookups.{drop_here}

-- what was read, before what is left to read, is all
pub record IsReading {A : Type 0} (f : Data → ListRead A) (done : List A) (left all : Items) : Type 0 where
  pub list : done ++ (each_read f left).items ≡ (each_read f all).items
  pub faults : (each_read f left).faults ≡ (each_read f all).faults

pub reading_start : {A : Type 0} (f : Data → ListRead A) (all : Items) (done : List A) → done ≡ [] → IsReading f done all all
reading_start f all done none = record { list = ap (λ d. d ++ (each_read f all).items) none; faults = refl }

pub items_here : (xs : List Value) (i : ℕ) (x : Value) → i < length xs → x ≡ get_or xs i x → items_view (drop i xs) ≡ item (view x) (items_view (drop (i + 1) xs))
items_here xs i x h e = ap items_view (drop_here xs i x h e)

pub reading_more : {A : Type 0} (f : Data → ListRead A) (done : List A) (before left all : Items) (d : Data) (x : A) (new : List A) → before ≡ item d left → new ≡ done ++ x ∷ [] → (f d).faults ≡ [] → (f d).items ≡ x ∷ []
    → IsReading f done before all → IsReading f new left all
unfolding each_read
reading_more {A} f done before left all d x new e is none one r =
    let list : done ++ ((f d).items ++ (each_read f left).items) ≡ (each_read f all).items = ap (λ (b : Items). done ++ (each_read f b).items) (sym e) ∙ r.list in
    let faults : (f d).faults ++ (each_read f left).faults ≡ (each_read f all).faults = ap (λ (b : Items). (each_read f b).faults) (sym e) ∙ r.faults in
    record {
      list = ap (λ (l : List A). l ++ (each_read f left).items) is ∙ append_assoc done (x ∷ []) (each_read f left).items ∙ ap (λ (l : List A). done ++ (l ++ (each_read f left).items)) (sym one) ∙ list;
      faults = ap (λ (l : List SchemaFault). l ++ (each_read f left).faults) (sym none) ∙ faults;
    }

pub reading_refused : {A : Type 0} (f : Data → ListRead A) (done : List A) (before left all : Items) (d : Data) (e : SchemaFault) → before ≡ item d left → Told (f d).faults e → IsReading f done before all → Told (each_read f all).faults e
unfolding each_read
reading_refused f done before left all d e is told r =
    subst (λ (fs : List SchemaFault). Told fs e) (ap (λ (b : Items). (each_read f b).faults) (sym is) ∙ r.faults) (told_first (f d).faults _ e told)

pub reading_end : {A : Type 0} (f : Data → ListRead A) (done : List A) (left all : Items) → left ≡ no_items → IsReading f done left all → ((each_read f all).faults ≡ []) × (done ≡ (each_read f all).items)
unfolding each_read
reading_end f done left all e r =
    (sym r.faults ∙ ap (λ (b : Items). (each_read f b).faults) e, sym (append-nil done) ∙ ap (λ (b : Items). done ++ (each_read f b).items) (sym e) ∙ r.list)
