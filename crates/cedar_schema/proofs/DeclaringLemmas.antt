-- The faults of what is read part by part are those of its parts.
use Rattle.std.proofs.Common.{◌≡◌, ℕ, codes, List, [], ◌∷◌, ◌++◌, Option, Some, None, option_map, unwrap_or, is_some, refl, sym, ap, ◌∙◌, subst}
use Rattle.serde_json.specs.Data.{Data, Members}
use Rattle.serde_json.specs.Find.{get, as_object}
use Rattle.cedar_value.specs.declared.uid.Uid.{Uid}
use Rattle.cedar_schema_json.specs.declared.schema_fault.SchemaFault.{SchemaFault}
use Rattle.cedar_schema_json.specs.declared.schema_fault.SchemaFault.TheVariants.{Shape, Unspecified}
use Rattle.cedar_schema_json.specs.declared.json.part.Part.TheVariants.{EntityType, Action, AppliesTo}
use Rattle.cedar_schema.specs.declared.schema.action.AppliesTo.{AppliesTo as CodeApplies}
use Rattle.cedar_schema_json.specs.Faults.{Told}
use Rattle.cedar_schema_types.specs.Types.{TypeTree}
use Rattle.cedar_schema_json.specs.Entries.{EntryTree, part_faults, belongs, entity_key_faults, unless_null}
use Rattle.cedar_schema_json.specs.Naming.{fault_if}
use Rattle.cedar_schema_json.specs.Reading.{Scope, key_faults}
use Rattle.cedar_schema_json.specs.Expansion.{Table}
use Rattle.cedar_schema.specs.Private.ReadsApplies.{IsApplies}
use Rattle.cedar_schema_json.specs.Lists.{names_at, list_at, set_onto}
use Rattle.cedar_schema_json.specs.Shapes.{record_or_empty, record_type, empty_faults}
use Rattle.cedar_schema.specs.Declaring.{unspecified, member_read, entity_type_of, entity_type_faults, applies_read, Applies, action_of, action_faults}
use Rattle.cedar_schema_json.proofs.FormLemmas.{told_first, told_then}

module _ (sc : Scope) (t : Table) (e : EntryTree) where
  pub entity_key : (f : SchemaFault) → Told (entity_key_faults sc e.key) f → Told (entity_type_faults sc t e) f
  unfolding entity_type_faults
  entity_key f h = told_first (entity_key_faults sc e.key) _ f h

  pub entity_part : (f : SchemaFault) → Told (part_faults sc.language EntityType e.body) f → Told (entity_type_faults sc t e) f
  unfolding entity_type_faults
  entity_part f h = told_then (entity_key_faults sc e.key) _ f (told_first (part_faults sc.language EntityType e.body) _ f h)

  pub entity_members : (o : Option Data) (f : SchemaFault) → o ≡ get (codes "memberOfTypes") e.body → Told ((names_at sc [] o).faults) f → Told (entity_type_faults sc t e) f
  unfolding entity_type_faults
  entity_members o f is h = told_then (entity_key_faults sc e.key) _ f (told_then (part_faults sc.language EntityType e.body) _ f (told_first ((names_at sc [] (get (codes "memberOfTypes") e.body)).faults) _ f (subst (λ (x : Option Data). Told ((names_at sc [] x).faults) f) is h)))

  pub entity_shape : (o : Option Data) (f : SchemaFault) → o ≡ get (codes "shape") e.body → Told ((record_type sc t o).faults) f → Told (entity_type_faults sc t e) f
  unfolding entity_type_faults
  entity_shape o f is h = told_then (entity_key_faults sc e.key) _ f (told_then (part_faults sc.language EntityType e.body) _ f (told_then ((names_at sc [] (get (codes "memberOfTypes") e.body)).faults) _ f (subst (λ (x : Option Data). Told ((record_type sc t x).faults) f) is h)))

  pub entity_fine : (m s : Option Data) (parents : List (List ℕ)) (shape : TypeTree) → m ≡ get (codes "memberOfTypes") e.body → s ≡ get (codes "shape") e.body
      → entity_key_faults sc e.key ≡ [] → part_faults sc.language EntityType e.body ≡ [] → ((names_at sc [] m).faults ≡ []) × (parents ≡ (names_at sc [] m).items) → ((record_type sc t s).faults ≡ []) × (Some shape ≡ (record_type sc t s).ty)
      → (entity_type_faults sc t e ≡ []) × (record { parents = parents; shape = shape } ≡ entity_type_of sc t e)
  unfolding entity_type_faults entity_type_of
  entity_fine m s parents shape mi si key part names made =
      let n = ap (λ (x : Option Data). (names_at sc [] x).faults) (sym mi) ∙ names.0 in
      let r = ap (λ (x : Option Data). (record_type sc t x).faults) (sym si) ∙ made.0 in
      let p = names.1 ∙ ap (λ (x : Option Data). (names_at sc [] x).items) mi in
      let q = ap record_or_empty (made.1 ∙ ap (λ (x : Option Data). (record_type sc t x).ty) si) in
      ((λ i. key i ++ (part i ++ (n i ++ r i))), (λ i. record { parents = p i; shape = q i }))

module _ (sc : Scope) (t : Table) (d : Data) where
  pub applies_part : (f : SchemaFault) → Told (part_faults sc.language AppliesTo d) f → Told ((applies_read sc t (Some d)).faults) f
  unfolding applies_read
  applies_part f h = told_first (part_faults sc.language AppliesTo d) _ f h

  -- a list that is not there is a fault where there is an object
  lists : part_faults sc.language AppliesTo d ≡ [] → unspecified d ≡ Unspecified ∷ []
  lists h = at (as_object d) h
    where
      at : (o : Option Members) → unwrap_or (option_map (key_faults (belongs sc.language AppliesTo)) o) (Shape ∷ []) ≡ [] → fault_if (is_some o) Unspecified ≡ Unspecified ∷ []
      at None h = cc
      at (Some ms) h = refl

  pub applies_principals : (o : Option Data) (f : SchemaFault) → part_faults sc.language AppliesTo d ≡ [] → o ≡ get (codes "principalTypes") d → Told ((names_at sc (Unspecified ∷ []) o).faults) f → Told ((applies_read sc t (Some d)).faults) f
  unfolding applies_read
  applies_principals o f part is h =
      told_then (part_faults sc.language AppliesTo d) _ f (told_first ((names_at sc (unspecified d) (get (codes "principalTypes") d)).faults) _ f
      (subst (λ (m : List SchemaFault). Told ((names_at sc m (get (codes "principalTypes") d)).faults) f) (sym (lists part)) (subst (λ (x : Option Data). Told ((names_at sc (Unspecified ∷ []) x).faults) f) is h)))

  pub applies_resources : (o : Option Data) (f : SchemaFault) → part_faults sc.language AppliesTo d ≡ [] → o ≡ get (codes "resourceTypes") d → Told ((names_at sc (Unspecified ∷ []) o).faults) f → Told ((applies_read sc t (Some d)).faults) f
  unfolding applies_read
  applies_resources o f part is h =
      told_then (part_faults sc.language AppliesTo d) _ f (told_then ((names_at sc (unspecified d) (get (codes "principalTypes") d)).faults) _ f (told_first ((names_at sc (unspecified d) (get (codes "resourceTypes") d)).faults) _ f
      (subst (λ (m : List SchemaFault). Told ((names_at sc m (get (codes "resourceTypes") d)).faults) f) (sym (lists part)) (subst (λ (x : Option Data). Told ((names_at sc (Unspecified ∷ []) x).faults) f) is h))))

  pub applies_context : (o : Option Data) (f : SchemaFault) → o ≡ get (codes "context") d → Told ((record_type sc t o).faults) f → Told ((applies_read sc t (Some d)).faults) f
  unfolding applies_read
  applies_context o f is h = told_then (part_faults sc.language AppliesTo d) _ f (told_then ((names_at sc (unspecified d) (get (codes "principalTypes") d)).faults) _ f (told_then ((names_at sc (unspecified d) (get (codes "resourceTypes") d)).faults) _ f ((subst (λ (x : Option Data). Told ((record_type sc t x).faults) f) is h))))

  pub applies_fine : (m s g : Option Data) (a : CodeApplies) (ps rs : List (List ℕ)) → m ≡ get (codes "principalTypes") d → s ≡ get (codes "resourceTypes") d → g ≡ get (codes "context") d
      → part_faults sc.language AppliesTo d ≡ [] → ((names_at sc (Unspecified ∷ []) m).faults ≡ []) × (ps ≡ (names_at sc (Unspecified ∷ []) m).items) → ((names_at sc (Unspecified ∷ []) s).faults ≡ []) × (rs ≡ (names_at sc (Unspecified ∷ []) s).items)
      → ((record_type sc t g).faults ≡ []) × (Some a.context ≡ (record_type sc t g).ty) → a.principals.keys ≡ set_onto [] ps → a.resources.keys ≡ set_onto [] rs → IsApplies a (applies_read sc t (Some d))
  unfolding applies_read
  applies_fine m s g a ps rs mi si gi part one two made pset rset =
      let told = lists part in
      let n = (λ i. (names_at sc (told i) (sym mi i)).faults) ∙ one.0 in
      let r = (λ i. (names_at sc (told i) (sym si i)).faults) ∙ two.0 in
      let w = ap (λ (x : Option Data). (record_type sc t x).faults) (sym gi) ∙ made.0 in
      record {
        faults = λ i. part i ++ (n i ++ (r i ++ w i));
        principals = pset ∙ ap (set_onto []) (one.1 ∙ (λ i. (names_at sc (sym told i) (mi i)).items));
        resources = rset ∙ ap (set_onto []) (two.1 ∙ (λ i. (names_at sc (sym told i) (si i)).items));
        context = ap record_or_empty (made.1 ∙ ap (λ (x : Option Data). (record_type sc t x).ty) gi);
      }

module _ (sc : Scope) (t : Table) (uids : List Uid) (e : EntryTree) where
  pub action_part : (f : SchemaFault) → Told (part_faults sc.language Action e.body) f → Told (action_faults sc t uids e) f
  unfolding action_faults
  action_part f h = told_first (part_faults sc.language Action e.body) _ f h

  pub action_members : (o : Option Data) (f : SchemaFault) → o ≡ unless_null (get (codes "memberOf") e.body) → Told ((list_at (member_read sc.language uids sc.namespace) [] o).faults) f → Told (action_faults sc t uids e) f
  unfolding action_faults
  action_members o f is h = told_then (part_faults sc.language Action e.body) _ f (told_first ((list_at (member_read sc.language uids sc.namespace) [] (unless_null (get (codes "memberOf") e.body))).faults) _ f (subst (λ (x : Option Data). Told ((list_at (member_read sc.language uids sc.namespace) [] x).faults) f) is h))

  pub action_applies : (o : Option Data) (f : SchemaFault) → o ≡ unless_null (get (codes "appliesTo") e.body) → Told ((applies_read sc t o).faults) f → Told (action_faults sc t uids e) f
  unfolding action_faults
  action_applies o f is h = told_then (part_faults sc.language Action e.body) _ f (told_then ((list_at (member_read sc.language uids sc.namespace) [] (unless_null (get (codes "memberOf") e.body))).faults) _ f (told_first ((applies_read sc t (unless_null (get (codes "appliesTo") e.body))).faults) _ f (subst (λ (x : Option Data). Told ((applies_read sc t x).faults) f) is h)))

  pub action_attributes : (o : Option Data) (f : SchemaFault) → o ≡ unless_null (get (codes "attributes") e.body) → Told (empty_faults o) f → Told (action_faults sc t uids e) f
  unfolding action_faults
  action_attributes o f is h = told_then (part_faults sc.language Action e.body) _ f (told_then ((list_at (member_read sc.language uids sc.namespace) [] (unless_null (get (codes "memberOf") e.body))).faults) _ f (told_then ((applies_read sc t (unless_null (get (codes "appliesTo") e.body))).faults) _ f ((subst (λ (x : Option Data). Told (empty_faults x) f) is h))))

  pub action_fine : (m s g : Option Data) (parents : List Uid) (a : CodeApplies) → m ≡ unless_null (get (codes "memberOf") e.body) → s ≡ unless_null (get (codes "appliesTo") e.body) → g ≡ unless_null (get (codes "attributes") e.body)
      → part_faults sc.language Action e.body ≡ [] → ((list_at (member_read sc.language uids sc.namespace) [] m).faults ≡ []) × (parents ≡ (list_at (member_read sc.language uids sc.namespace) [] m).items) → IsApplies a (applies_read sc t s) → empty_faults g ≡ []
      → (action_faults sc t uids e ≡ []) × (record { parents = parents; principals = a.principals.keys; resources = a.resources.keys; context = a.context } ≡ action_of sc t uids e)
  unfolding action_faults action_of
  action_fine m s g parents a mi si gi part names made empty =
      let n = ap (λ (x : Option Data). (list_at (member_read sc.language uids sc.namespace) [] x).faults) (sym mi) ∙ names.0 in
      let r = ap (λ (x : Option Data). (applies_read sc t x).faults) (sym si) ∙ made.faults in
      let w = ap empty_faults (sym gi) ∙ empty in
      let p = names.1 ∙ ap (λ (x : Option Data). (list_at (member_read sc.language uids sc.namespace) [] x).items) mi in
      let on = ap (applies_read sc t) si in
      let q = made.principals ∙ ap (λ (x : Applies). x.principals) on in
      let u = made.resources ∙ ap (λ (x : Applies). x.resources) on in
      let v = made.context ∙ ap (λ (x : Applies). x.context) on in
      ((λ i. part i ++ (n i ++ (r i ++ w i))), (λ i. record { parents = p i; principals = q i; resources = u i; context = v i }))
