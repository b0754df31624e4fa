-- A type that expands to a record.
use Rattle.std.proofs.Common.{◌≡◌, Bool, true, false, not, List, [], ◌∷◌, ◌++◌, Option, Some, length, refl, sym, ap, ◌∙◌, subst}
use Rattle.serde_json.specs.Data.{Data, object}
use Rattle.serde_json.specs.Find.{as_object}
use Rattle.serde_json.specs.View.{members_view}
use Rattle.serde_json.proofs.Views.{Entry}
use Rattle.cedar_schema_json.specs.declared.schema_fault.SchemaFault.{SchemaFault}
use Rattle.cedar_schema_json.specs.declared.schema_fault.SchemaFault.TheVariants.{Shape}
use Rattle.cedar_schema_json.specs.declared.form.position.Position.TheVariants.{Inner}
use Rattle.cedar_schema_json.specs.Faults.{Told}
use Rattle.cedar_schema_json.specs.Forms.{FormTree}
use Rattle.cedar_schema_types.specs.Types.{TypeTree, is_record}
use Rattle.cedar_schema_json.specs.Naming.{fault_if}
use Rattle.cedar_schema_json.specs.Reading.{Scope, type_read}
use Rattle.cedar_schema_json.specs.Expansion.{Table, typed}
use Rattle.cedar_schema_json.specs.Shapes.{record_type, record_or_empty, empty_faults}
use Rattle.cedar_schema_json.proofs.FormLemmas.{object_of, told_first, told_then, told_here}

-- whether there is a type, and no record
abbrev is_no_record : Option TypeTree → Bool
is_no_record o = not (is_record (record_or_empty o))

module _ (sc : Scope) (t : Table) (d : Data) where
  pub shape_form : (e : SchemaFault) → Told (type_read sc Inner d).faults e → Told (record_type sc t (Some d)).faults e
  unfolding record_type
  shape_form e h = told_first _ _ e h

  pub shape_type : (f : FormTree) (e : SchemaFault) → f ≡ (type_read sc Inner d).form → Told (typed t f).faults e → Told (record_type sc t (Some d)).faults e
  unfolding record_type
  shape_type f e is h = told_then (type_read sc Inner d).faults _ e (told_first _ _ e (subst (λ (g : FormTree). Told (typed t g).faults e) is h))

  pub shape_kind : (f : FormTree) (ty : TypeTree) (b : Bool) → f ≡ (type_read sc Inner d).form → Some ty ≡ (typed t f).ty → b ≡ is_record ty → b ≡ false → Told (record_type sc t (Some d)).faults Shape
  unfolding record_type
  shape_kind f ty b is made tested no' =
      let none : is_no_record (typed t (type_read sc Inner d).form).ty ≡ true = ap (λ (g : FormTree). is_no_record (typed t g).ty) (sym is) ∙ ap is_no_record (sym made) ∙ ap not (sym tested ∙ no') in
      told_then (type_read sc Inner d).faults _ Shape (told_then (typed t (type_read sc Inner d).form).faults _ Shape (subst (λ (x : Bool). Told (fault_if x Shape) Shape) (sym none) (told_here Shape)))

  pub shape_fine : (f : FormTree) (ty : TypeTree) (b : Bool) → (type_read sc Inner d).faults ≡ [] → f ≡ (type_read sc Inner d).form → (typed t f).faults ≡ [] → Some ty ≡ (typed t f).ty → b ≡ is_record ty → b ≡ true
      → ((record_type sc t (Some d)).faults ≡ []) × (Some ty ≡ (record_type sc t (Some d)).ty)
  unfolding record_type
  shape_fine f ty b none is fine made tested yes' =
      let all : is_no_record (typed t (type_read sc Inner d).form).ty ≡ false = ap (λ (g : FormTree). is_no_record (typed t g).ty) (sym is) ∙ ap is_no_record (sym made) ∙ ap not (sym tested ∙ yes') in
      let typed_fine : (typed t (type_read sc Inner d).form).faults ≡ [] = ap (λ (g : FormTree). (typed t g).faults) (sym is) ∙ fine in
      ((λ i. none i ++ (typed_fine i ++ fault_if (all i) Shape)), made ∙ ap (λ (g : FormTree). (typed t g).ty) is)

-- ---- where there has to be an object without members

members_told : (es : List Entry) → (length es ≡ 0 → ⊥) → Told (empty_faults (Some (object (members_view es)))) Shape
members_told [] h = absurd (h refl)
members_told (e ∷ es) h = told_here Shape

pub empty_told : (o : Option Data) (d : Data) (es : List Entry) → o ≡ Some d → Some (members_view es) ≡ as_object d → (length es ≡ 0 → ⊥) → Told (empty_faults o) Shape
empty_told o d es here is h =
    let at : o ≡ Some (object (members_view es)) = here ∙ ap Some (object_of d (members_view es) (sym is)) in
    subst (λ (x : Option Data). Told (empty_faults x) Shape) (sym at) (members_told es h)
