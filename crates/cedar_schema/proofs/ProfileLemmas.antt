-- A schema that is accepted in the profile is accepted in Cedar 4, and denotes the same there, where its names mean the same.
use Rattle.std.proofs.Common.{◌≡◌, ◌==◌, ◌||◌, ◌&&◌, bytes_eq, cond, codes, ℕ, nat_eq, Bool, true, false, List, [], ◌∷◌, ◌++◌, length, Option, Some, None, option_map, unwrap_or, is_some, IfSome, Contains, Ordering, Less, Equal, Greater, refl, sym, ap, ◌∙◌, subst}
use Rattle.std.specs.Prelude.{not, MatchOption}
use Rattle.std.specs.BTreeMap.{insert_entry}
use Rattle.std.specs.List.{list_any, AllByRecursion}
use Rattle.std.specs.Ordering.{nat_cmp, match_ordering}
use Rattle.std.specs.Cmp.Lexicographic.{slice_cmp}
use Rattle.std.proofs.lemmas.List.Elements.{Contains-append_left, Contains-append_right}
use Rattle.std.proofs.lemmas.Slice.Eq.{bytes_eq-Decides}
use Rattle.serde_json.specs.Data.{Data, null, boolean, number, string, array, object, Members, no_members, member}
use Rattle.serde_json.specs.Find.{get, as_object}
use Rattle.base_json.specs.JsonTree.{json_of}
use Rattle.cedar_ext.specs.declared.extension.ExtensionType.{ExtensionType}
use Rattle.cedar_ext.specs.declared.extension.ExtensionType.TheVariants as type
use Rattle.cedar_ext.specs.declared.language.Language.{Language}
use Rattle.cedar_ext.specs.declared.language.Language.TheVariants.{Profile, Cedar4}
use Rattle.cedar_ext.specs.Extensions.{in_language, type_named}
use Rattle.cedar_value.specs.Order.{text_cmp, uid_cmp}
use Rattle.cedar_value.specs.declared.uid.Uid.{Uid}
use Rattle.cedar_schema_types.specs.Types.{is_record}
use Rattle.cedar_schema_json.specs.declared.schema_fault.SchemaFault.{SchemaFault}
use Rattle.cedar_schema_json.specs.declared.schema_fault.SchemaFault.TheVariants.{Shape, UnknownType, ReservedName}
use Rattle.cedar_schema_json.specs.declared.form.position.Position.{Position}
use Rattle.cedar_schema_json.specs.declared.form.position.Position.TheVariants.{Inner, CommonType, Attribute}
use Rattle.cedar_schema_json.specs.declared.json.part.Part.{Part}
use Rattle.cedar_schema_json.specs.Annotations.{is_annotation}
use Rattle.cedar_schema_json.specs.declared.json.part.Part.TheVariants.{Namespace, EntityType, Action, AppliesTo, Member}
use Rattle.cedar_schema_json.specs.Naming.{Declared, or_else, place_of, listed, resolved, whole_name, text_faults, name_faults, qualified, fault_if}
use Rattle.cedar_schema_json.specs.Forms.{FormTree, no_form, extension_form, entity_form, common_form}
use Rattle.cedar_schema_json.specs.Reading.{Read, RowsRead, Scope, fine, no_rows_read, of_kind, of_type, kind_in, kind_named, named_read, common_read, either_read, declared_type, type_called, built_in, allowed, written_beside, may_have, key_faults, unknown_keys, closed_faults, required_faults, row_then, text_at, needed, set_of, record_of, with_faults, extension_named, type_read, read_at, rows_at, rows_read, all_rows}
use Rattle.cedar_schema_json.specs.Expansion.{Table, Expanded, typed}
use Rattle.cedar_schema_json.specs.Entries.{EntryTree, unless_null, belongs, is_enumeration, part_faults, namespace_faults, object_faults, space_faults, shadows, is_kept, is_named, entries, key_text_faults, entity_key_faults, common_key_faults, root_faults, whole_names}
use Rattle.cedar_schema_json.specs.Lists.{ListRead, list_at, names_at, set_onto}
use Rattle.cedar_schema_json.specs.Shapes.{record_type, record_or_empty, empty_faults}
use Rattle.cedar_schema_spec.specs.Descents.{ActionDescends}
use Rattle.cedar_schema_spec.specs.SchemaTree.{EntityTypeTree, ActionTree, SchemaTree}
use Rattle.cedar_schema.specs.Declaring.{member_read, unspecified, uid_of, entity_type_of, entity_type_faults, applies_read, action_of, action_faults}
use Rattle.cedar_schema.specs.Each.{each_faults, each_onto}
use Rattle.cedar_schema.specs.Schemas.{Setting, Sections, scope_at, forms_of, common_faults, expansion_faults, add_entity, entity_faults, add_enumeration, enumerated_faults, add_action, one_action_faults, uids_onto, sections_of, setting_of, schema_in, setting_faults, sections_faults, schema_of, written_faults}
use Rattle.cedar_schema.specs.Denotes.{IsFine, Denotes}
use Rattle.cedar_schema.specs.Languages.{ShadowsNone, DeclaresNone, NamesMeanTheSame, ProfileSchemasAreKept}
use Rattle.cedar_schema.proofs.InsertedKeys.{here, there}
use Rattle.cedar_schema.proofs.NameEnds.{has_colon, no_first, no_second, no_colon, no_fault}
use Rattle.cedar_schema.proofs.NamedTypes.{of_either}
use Rattle.cedar_schema.proofs.ResolvedNames.{placed}

-- ---- what is read

-- where the first has no fault, the second is the same
abbrev Same : Read → Read → Type 0
Same r q = r.faults ≡ [] → r ≡ q

abbrev SameRows : RowsRead → RowsRead → Type 0
SameRows r q = r.faults ≡ [] → r ≡ q

-- neither is there, or both are, and it holds of them
abbrev Both : {A : Type 0} → (A → A → Type 0) → Option A → Option A → Type 0
Both S None None = Unit {0}
Both S None (Some q) = ⊥
Both S (Some r) None = ⊥
Both S (Some r) (Some q) = S r q

picked : {A : Type 0} (S : A → A → Type 0) (o : Ordering) (x y : Option A) (r q : A) → Both S x y → S r q → Both S (match_ordering o x (Some r) x) (match_ordering o y (Some q) y)
picked S Less x y r q b c = b
picked S Equal x y r q b c = c
picked S Greater x y r q b c = b

-- the type of this name, where the language has it
abbrev in_form : Language → List ℕ → Option ExtensionType → Read
in_form language s o = unwrap_or (option_map (λ (t : ExtensionType). fine (extension_form t)) (in_language language o)) (record { form = no_form; faults = text_faults s ++ UnknownType ∷ [] })

no_such : {A : Type 0} (e : SchemaFault) → e ∷ [] ≡ [] → A
no_such e h = cc

left_out : (s : List ℕ) (q : Read) → Same (record { form = no_form; faults = text_faults s ++ UnknownType ∷ [] }) q
left_out s q h = no_such UnknownType (no_second (text_faults s) (UnknownType ∷ []) h)

form_same : (s : List ℕ) (o : Option ExtensionType) → Same (in_form Profile s o) (in_form Cedar4 s o)
form_same s None = λ h. refl
form_same s (Some type.Decimal) = λ h. refl
form_same s (Some type.Ip) = left_out s (in_form Cedar4 s (Some type.Ip))
form_same s (Some type.Datetime) = left_out s (in_form Cedar4 s (Some type.Datetime))
form_same s (Some type.Duration) = left_out s (in_form Cedar4 s (Some type.Duration))

extension_same : (o : Option (List ℕ)) → Same (needed (extension_named Profile) o) (needed (extension_named Cedar4) o)
extension_same None = λ h. refl
extension_same (Some s) = form_same s (type_named s)

set_same : (x y : Option Read) → Both Same x y → Same (needed set_of x) (needed set_of y)
set_same None None b = λ h. refl
set_same None (Some q) b = absurd b
set_same (Some r) None b = absurd b
set_same (Some r) (Some q) b = λ h. ap set_of (b h)

record_same : (fs : List SchemaFault) (x y : Option RowsRead) → Both SameRows x y → Same (with_faults fs (record_of (unwrap_or x no_rows_read))) (with_faults fs (record_of (unwrap_or y no_rows_read)))
record_same fs None None b = λ h. refl
record_same fs None (Some q) b = absurd b
record_same fs (Some r) None b = absurd b
record_same fs (Some r) (Some q) b = λ h. ap (λ (x : RowsRead). with_faults fs (record_of x)) (b (no_second fs r.faults h))

row_same : (k : List ℕ) (o : Option Data) (r q : Read) (rs qs : RowsRead) → Same r q → SameRows rs qs → SameRows (row_then k o r rs) (row_then k o q qs)
row_same k o r q rs qs b c h =
    let own = required_faults o ++ r.faults in
    let this = b (no_second (required_faults o) r.faults (no_first own rs.faults h)) in
    let others = c (no_second own rs.faults h) in λ i. row_then k o (this i) (others i)

-- ---- keys

and_none : (a b : Bool) → b ≡ false → (a && b) ≡ false
and_none true b h = h
and_none false b h = refl

or_more : (a b c : Bool) → (b ≡ true → c ≡ true) → (a || b) ≡ true → (a || c) ≡ true
or_more true b c f h = refl
or_more false b c f h = f h

-- what may be there in the one case, may be there in the other
abbrev Wider : (List ℕ → Data → Bool) → (List ℕ → Data → Bool) → Type 0
Wider may more = (k : List ℕ) (d : Data) → may k d ≡ true → more k d ≡ true

keys_kept : (may more : List ℕ → Data → Bool) → Wider may more → (ms : Members) → key_faults may ms ≡ [] → key_faults more ms ≡ []
keys_kept may more wider no_members h = refl
keys_kept may more wider (member k d ms) h =
    let own = cond (may k d) [] (Shape ∷ []) in
    let none = wider k d (here_may (may k d) (no_first own (key_faults may ms) h)) in
    λ i. cond (none i) [] (Shape ∷ []) ++ keys_kept may more wider ms (no_second own (key_faults may ms) h) i
  where
    here_may : (b : Bool) → cond b [] (Shape ∷ []) ≡ [] → b ≡ true
    here_may true e = refl
    here_may false e = cc

no_annotation : (k : List ℕ) (d : Data) → is_annotation Profile k d ≡ true → is_annotation Cedar4 k d ≡ true
no_annotation k d h = cc

-- what two keys allow, more keys allow
of_two : (a b x y : Bool) → (a || b || false || false) ≡ true → (a || b || x || y) ≡ true
of_two true b x y h = refl
of_two false true x y h = refl
of_two false false x y h = cc

part_wider : (part : Part) → Wider (belongs Profile part) (belongs Cedar4 part)
unfolding belongs
part_wider Namespace k d h = or_more (bytes_eq k (codes "entityTypes") || bytes_eq k (codes "actions") || bytes_eq k (codes "commonTypes")) _ _ (no_annotation k d) h
part_wider EntityType k d h = of_two (bytes_eq k (codes "memberOfTypes")) (bytes_eq k (codes "shape")) (is_enumeration Cedar4 k) (is_annotation Cedar4 k d) h
part_wider Action k d h = or_more (bytes_eq k (codes "memberOf") || bytes_eq k (codes "appliesTo") || bytes_eq k (codes "attributes")) _ _ (no_annotation k d) h
part_wider AppliesTo k d h = h
part_wider Member k d h = h

part_kept : (part : Part) (d : Data) → part_faults Profile part d ≡ [] → part_faults Cedar4 part d ≡ []
part_kept part d h = at (as_object d) h
  where
    at : (o : Option Members) → unwrap_or (option_map (key_faults (belongs Profile part)) o) (Shape ∷ []) ≡ [] → unwrap_or (option_map (key_faults (belongs Cedar4 part)) o) (Shape ∷ []) ≡ []
    at None h = h
    at (Some ms) h = keys_kept (belongs Profile part) (belongs Cedar4 part) (part_wider part) ms h

beside_wider : (a : Position) → Wider (written_beside Profile a) (written_beside Cedar4 a)
unfolding written_beside
beside_wider Inner k d h = h
beside_wider CommonType k d h = no_annotation k d h
beside_wider Attribute k d h = or_more (bytes_eq k (codes "required")) _ _ (no_annotation k d) h

-- beside the keys of its kind
abbrev with_own : Language → (List ℕ → Bool) → Position → List ℕ → Data → Bool
with_own language own a k d = own k || written_beside language a k d

type_keys_kept : (own : List ℕ → Bool) (a : Position) (d : Data) → unknown_keys (with_own Profile own a) d ≡ [] → unknown_keys (with_own Cedar4 own a) d ≡ []
type_keys_kept own a d h = at (as_object d) h
  where
    at : (o : Option Members) → unwrap_or (option_map (key_faults (with_own Profile own a)) o) [] ≡ [] → unwrap_or (option_map (key_faults (with_own Cedar4 own a)) o) [] ≡ []
    at None h = h
    at (Some ms) h = keys_kept (with_own Profile own a) (with_own Cedar4 own a) (λ k e. or_more (own k) _ _ (beside_wider a k e)) ms h

if_false : {K : Type 0} (b : Bool) (x y : K) → b ≡ false → cond b x y ≡ y
if_false true x y h = cc
if_false false x y h = refl

named_alike : (s : List ℕ) → bytes_eq s (codes "EntityOrCommon") ≡ false → kind_in Cedar4 s ≡ kind_named s
unfolding kind_in
named_alike s e = if_false (bytes_eq s (codes "EntityOrCommon")) _ _ e

profile_alike : (s : List ℕ) → kind_in Profile s ≡ kind_named s
unfolding kind_in
profile_alike s = refl

member_same : member_read Profile ≡ member_read Cedar4
unfolding member_read belongs
member_same = refl

applies_part : (d : Data) → part_faults Profile AppliesTo d ≡ part_faults Cedar4 AppliesTo d
unfolding belongs
applies_part d = refl

-- ---- names

place_in : (names : List (List ℕ)) (name : List ℕ) (p : ℕ) → place_of names name ≡ Some p → Contains names name
place_in names name p is = subst (λ (o : Option ℕ). IfSome (option_map (λ place. (name, place)) o) (λ (n : Declared). Contains names n.0)) is (placed names 0 name)

-- the common type of this name, or the type of it, after the faults of its text
abbrev as_common : List SchemaFault → Option Declared → Read
as_common fs o = record { form = unwrap_or (option_map (λ (n : Declared). common_form n.1) o) no_form; faults = fs ++ fault_if (not (is_some o)) UnknownType }

abbrev as_either : List SchemaFault → Option FormTree → Read
as_either fs o = unwrap_or (option_map fine o) (record { form = no_form; faults = fs ++ UnknownType ∷ [] })

abbrev IsCommon : Option Declared → Option FormTree → Type 0
IsCommon o p = IfSome o (λ n. p ≡ Some (common_form n.1))

made_same : (fs : List SchemaFault) (o : Option Declared) (p : Option FormTree) → IsCommon o p → Same (as_common fs o) (as_either fs p)
made_same fs None p is h = no_such UnknownType (no_second fs (UnknownType ∷ []) h)
made_same fs (Some n) p is h =
    let none : as_common fs (Some n) ≡ fine (common_form n.1) = λ i. record { form = common_form n.1; faults = h i } in
    none ∙ sym (ap (as_either fs) is)

-- where a common type is found, a type of the same name is found, unless an entity type is before it
common_first : (w s : List ℕ) (o p q : Option ℕ) (rest : Option FormTree) → ((k j : ℕ) → o ≡ None → p ≡ Some k → q ≡ Some j → ⊥)
    → IsCommon (or_else (option_map (λ place. (w, place)) o) (option_map (λ place. (s, place)) p)) (or_else (or_else (option_map common_form o) (option_map (λ (n : ℕ). entity_form w) q)) (or_else (or_else (option_map common_form p) rest) (built_in s)))
common_first w s (Some k) p q rest apart = refl
common_first w s None None q rest apart = tt
common_first w s None (Some k) None rest apart = refl
common_first w s None (Some k) (Some j) rest apart = absurd (apart k j refl refl refl)

common_alone : (s : List ℕ) (p : Option ℕ) (rest more : Option FormTree) → IsCommon (option_map (λ place. (s, place)) p) (or_else (or_else (option_map common_form p) rest) more)
common_alone s None rest more = tt
common_alone s (Some k) rest more = refl

module _ (entities commons : List (List ℕ)) (apart : ShadowsNone (entities ++ commons)) (key_word : DeclaresNone commons (codes "EntityOrCommon")) where
  entity_in : (n : List ℕ) → Contains entities n → Contains (entities ++ commons) n
  entity_in n h = Contains-append_left entities commons n h

  common_in : (n : List ℕ) → Contains commons n → Contains (entities ++ commons) n
  common_in n h = Contains-append_right entities commons n h

  -- a definition of a namespace has no name of the empty one
  shadows_none : (namespace k : List ℕ) → has_colon k ≡ false → Contains (entities ++ commons) (qualified namespace k) → shadows (scope_at Cedar4 entities commons namespace) k ≡ false
  unfolding shadows
  shadows_none [] k plain h = refl
  shadows_none (x ∷ xs) k plain h = and_none _ _ (at (place_of entities k) (place_of commons k) refl refl)
    where
      not_both : Contains (entities ++ commons) k → ⊥
      not_both = apart (x ∷ xs) k (λ e. cc) plain h

      at : (o p : Option ℕ) → place_of entities k ≡ o → place_of commons k ≡ p → (is_some o || is_some p) ≡ false
      at (Some i) p e f = absurd (not_both (entity_in k (place_in entities k i e)))
      at None (Some i) e f = absurd (not_both (common_in k (place_in commons k i f)))
      at None None e f = refl

  -- an entity type of a namespace is not before a common type of the empty one
  never_between : (namespace s : List ℕ) → has_colon s ≡ false → (k j : ℕ) → place_of commons (qualified namespace s) ≡ None → place_of commons s ≡ Some k → place_of entities (qualified namespace s) ≡ Some j → ⊥
  unfolding qualified
  never_between [] s plain k j e f g = let no : None ≡ Some k = sym e ∙ f in cc
  never_between (x ∷ xs) s plain k j e f g =
      apart (x ∷ xs) s (λ h. cc) plain (entity_in _ (place_in entities _ j g)) (common_in s (place_in commons s k f))

  called_same : (namespace s : List ℕ) → IsCommon (resolved commons namespace s) (type_called (scope_at Cedar4 entities commons namespace) s)
  unfolding resolved type_called whole_name
  called_same namespace s = at (has_colon s) refl
    where
      w : List ℕ
      w = qualified namespace s

      at : (b : Bool) → has_colon s ≡ b
          → IsCommon (cond b (listed commons s) (or_else (listed commons w) (listed commons s)))
          (or_else (declared_type (scope_at Cedar4 entities commons namespace) (cond b s w)) (or_else (declared_type (scope_at Cedar4 entities commons namespace) s) (built_in s)))
      at true e = common_alone s (place_of commons s) (option_map (λ (n : ℕ). entity_form s) (place_of entities s)) _
      at false e = common_first w s (place_of commons w) (place_of commons s) (place_of entities w) (option_map (λ (n : ℕ). entity_form s) (place_of entities s)) (never_between namespace s e)

  name_same : (namespace s : List ℕ) → Same (common_read (scope_at Profile entities commons namespace) s) (either_read (scope_at Cedar4 entities commons namespace) s)
  unfolding name_faults
  name_same namespace s = made_same (text_faults s) (resolved commons namespace s) (type_called (scope_at Cedar4 entities commons namespace) s) (called_same namespace s)

  unqualified : (s : List ℕ) → qualified [] s ≡ s
  unfolding qualified
  unqualified s = refl

  -- a key word of Cedar 4 names nothing in the profile
  key_word_nothing : (namespace : List ℕ) (q : Read) → Same (common_read (scope_at Profile entities commons namespace) (codes "EntityOrCommon")) q
  unfolding name_faults resolved
  key_word_nothing namespace q = at (place_of commons (qualified namespace (codes "EntityOrCommon"))) (place_of commons (codes "EntityOrCommon")) refl refl
    where
      at : (o p : Option ℕ) → place_of commons (qualified namespace (codes "EntityOrCommon")) ≡ o → place_of commons (codes "EntityOrCommon") ≡ p
          → Same (as_common (text_faults (codes "EntityOrCommon")) (or_else (option_map (λ place. (qualified namespace (codes "EntityOrCommon"), place)) o) (option_map (λ place. (codes "EntityOrCommon", place)) p))) q
      at (Some i) p e f = absurd (key_word namespace (place_in commons _ i e))
      at None (Some i) e f = absurd (key_word [] (subst (λ (n : List ℕ). Contains commons n) (sym (unqualified (codes "EntityOrCommon"))) (place_in commons _ i f)))
      at None None e f = λ h. no_such UnknownType (no_second (text_faults (codes "EntityOrCommon")) (UnknownType ∷ []) h)

module _ (entities commons : List (List ℕ)) (apart : ShadowsNone (entities ++ commons)) (key_word : DeclaresNone commons (codes "EntityOrCommon")) (namespace : List ℕ) where
  abbrev scope : Language → Scope
  scope language = scope_at language entities commons namespace

  kind_same : (d : Data) (s : List ℕ) (x y : Option Read) (rs qs : Option RowsRead) → Both Same x y → Both SameRows rs qs → Same (of_kind (scope Profile) d s (kind_named s) x rs) (of_kind (scope Cedar4) d s (kind_named s) y qs)
  unfolding kind_named
  kind_same d s x y rs qs b c =
      of_either (λ k. Same (of_kind (scope Profile) d s k x rs) (of_kind (scope Cedar4) d s k y qs)) (bytes_eq s (codes "Boolean")) _ _ (λ h. refl)
      (of_either (λ k. Same (of_kind (scope Profile) d s k x rs) (of_kind (scope Cedar4) d s k y qs)) (bytes_eq s (codes "Long")) _ _ (λ h. refl)
      (of_either (λ k. Same (of_kind (scope Profile) d s k x rs) (of_kind (scope Cedar4) d s k y qs)) (bytes_eq s (codes "String")) _ _ (λ h. refl)
      (of_either (λ k. Same (of_kind (scope Profile) d s k x rs) (of_kind (scope Cedar4) d s k y qs)) (bytes_eq s (codes "Set")) _ _ (set_same x y b)
      (of_either (λ k. Same (of_kind (scope Profile) d s k x rs) (of_kind (scope Cedar4) d s k y qs)) (bytes_eq s (codes "Record")) _ _ (record_same (closed_faults (get (codes "additionalAttributes") d)) rs qs c)
      (of_either (λ k. Same (of_kind (scope Profile) d s k x rs) (of_kind (scope Cedar4) d s k y qs)) (bytes_eq s (codes "Entity")) _ _ (λ h. refl)
      (of_either (λ k. Same (of_kind (scope Profile) d s k x rs) (of_kind (scope Cedar4) d s k y qs)) (bytes_eq s (codes "Extension")) _ _ (extension_same (text_at (codes "name") d)) (name_same entities commons apart key_word namespace s)))))))

  word_same : (d : Data) (s : List ℕ) (x : Option Read) (rs : Option RowsRead) (q : Read) → bytes_eq s (codes "EntityOrCommon") ≡ true → Same (of_kind (scope Profile) d s (kind_named s) x rs) q
  unfolding kind_named
  word_same d s x rs q e =
      subst (λ (t : List ℕ). Same (of_kind (scope Profile) d t (kind_named t) x rs) q) (sym ((bytes_eq-Decides s (codes "EntityOrCommon")).0 e)) (key_word_nothing entities commons apart key_word namespace q)

  object_same : (a : Position) (d : Data) (x y : Option Read) (rs qs : Option RowsRead) (o : Option (List ℕ)) → Both Same x y → Both SameRows rs qs → Same (of_type (scope Profile) a d x rs o) (of_type (scope Cedar4) a d y qs o)
  object_same a d x y rs qs None b c = λ h. refl
  object_same a d x y rs qs (Some s) b c = subst (λ k. Same (with_faults (unknown_keys (may_have Profile k a) d) (of_kind (scope Profile) d s k x rs)) (of_type (scope Cedar4) a d y qs (Some s))) (sym (profile_alike s)) (at (bytes_eq s (codes "EntityOrCommon")) refl)
    where
      at : (w : Bool) → bytes_eq s (codes "EntityOrCommon") ≡ w
          → Same (with_faults (unknown_keys (may_have Profile (kind_named s) a) d) (of_kind (scope Profile) d s (kind_named s) x rs)) (of_type (scope Cedar4) a d y qs (Some s))
      at true e h =
          let inside = no_second (unknown_keys (may_have Profile (kind_named s) a) d) (of_kind (scope Profile) d s (kind_named s) x rs).faults h in
          let other = word_same d s x rs (record { form = no_form; faults = Shape ∷ [] }) e inside in
          no_such Shape (sym (ap (λ (r : Read). r.faults) other) ∙ inside)
      at false e h =
          let own = no_first (unknown_keys (may_have Profile (kind_named s) a) d) (of_kind (scope Profile) d s (kind_named s) x rs).faults h in
          let inside = kind_same d s x y rs qs b c (no_second (unknown_keys (may_have Profile (kind_named s) a) d) (of_kind (scope Profile) d s (kind_named s) x rs).faults h) in
          let still = type_keys_kept (allowed (kind_named s)) a d own in
          subst (λ k. with_faults (unknown_keys (may_have Profile (kind_named s) a) d) (of_kind (scope Profile) d s (kind_named s) x rs) ≡ with_faults (unknown_keys (may_have Cedar4 k a) d) (of_kind (scope Cedar4) d s k y qs))
          (sym (named_alike s e)) (λ i. with_faults ((own ∙ sym still) i) (inside i))

  mutual
    unfolding type_read read_at rows_at rows_read all_rows

    pub type_same : (a : Position) (d : Data) → Same (type_read (scope Profile) a d) (type_read (scope Cedar4) a d)
    type_same a null = λ h. refl
    type_same a (boolean b) = λ h. refl
    type_same a (number n) = λ h. refl
    type_same a (string s) = λ h. refl
    type_same a (array ds) = λ h. refl
    type_same a (object ms) =
        object_same a (object ms) (read_at (scope Profile) (codes "element") ms) (read_at (scope Cedar4) (codes "element") ms) (rows_at (scope Profile) (codes "attributes") ms) (rows_at (scope Cedar4) (codes "attributes") ms)
        (text_at (codes "type") (object ms)) (element_same (codes "element") ms) (attributes_same (codes "attributes") ms)

    element_same : (k : List ℕ) (ms : Members) → Both Same (read_at (scope Profile) k ms) (read_at (scope Cedar4) k ms)
    element_same k no_members = tt
    element_same k (member l d ms) =
        picked Same (slice_cmp nat_cmp k l) (read_at (scope Profile) k ms) (read_at (scope Cedar4) k ms) (type_read (scope Profile) Inner d) (type_read (scope Cedar4) Inner d) (element_same k ms) (type_same Inner d)

    attributes_same : (k : List ℕ) (ms : Members) → Both SameRows (rows_at (scope Profile) k ms) (rows_at (scope Cedar4) k ms)
    attributes_same k no_members = tt
    attributes_same k (member l d ms) =
        picked SameRows (slice_cmp nat_cmp k l) (rows_at (scope Profile) k ms) (rows_at (scope Cedar4) k ms) (rows_read (scope Profile) d) (rows_read (scope Cedar4) d) (attributes_same k ms) (rows_same d)

    rows_same : (d : Data) → SameRows (rows_read (scope Profile) d) (rows_read (scope Cedar4) d)
    rows_same null = λ h. refl
    rows_same (boolean b) = λ h. refl
    rows_same (number n) = λ h. refl
    rows_same (string s) = λ h. refl
    rows_same (array ds) = λ h. refl
    rows_same (object ms) = all_same ms

    all_same : (ms : Members) → SameRows (all_rows (scope Profile) ms) (all_rows (scope Cedar4) ms)
    all_same no_members = λ h. refl
    all_same (member k d ms) =
        row_same k (get (codes "required") d) (type_read (scope Profile) Attribute d) (type_read (scope Cedar4) Attribute d) (all_rows (scope Profile) ms) (all_rows (scope Cedar4) ms) (type_same Attribute d) (all_same ms)

  -- ---- shapes, contexts, entity types and actions

  abbrev shape_made : Table → Read → Expanded
  shape_made t r = record {
    ty = (typed t r.form).ty;
    faults = r.faults ++ ((typed t r.form).faults ++ fault_if (not (is_record (record_or_empty (typed t r.form).ty))) Shape);
  }

  shape_same : (t : Table) (o : Option Data) → (record_type (scope Profile) t o).faults ≡ [] → record_type (scope Profile) t o ≡ record_type (scope Cedar4) t o
  unfolding record_type
  shape_same t None = λ h. refl
  shape_same t (Some d) = λ h. ap (shape_made t) (type_same Inner d (no_first (type_read (scope Profile) Inner d).faults _ h))

  entity_key_kept : (k : List ℕ) → Contains (entities ++ commons) (qualified namespace k) → entity_key_faults (scope Profile) k ≡ [] → entity_key_faults (scope Cedar4) k ≡ []
  unfolding entity_key_faults
  entity_key_kept k c h =
      let text = no_first (key_text_faults k) _ h in
      let own = no_first (fault_if (bytes_eq k (codes "Action")) ReservedName) [] (no_second (key_text_faults k) _ h) in
      λ i. text i ++ (own i ++ fault_if (shadows_none entities commons apart key_word namespace k (no_colon k text) c i) ReservedName)

  pub entity_same : (t : Table) (e : EntryTree) → Contains entities (qualified namespace e.key) → entity_type_faults (scope Profile) t e ≡ [] → (entity_type_of (scope Profile) t e ≡ entity_type_of (scope Cedar4) t e) × (entity_type_faults (scope Cedar4) t e ≡ [])
  unfolding entity_type_faults entity_type_of
  entity_same t e c h =
      let parents = names_at (scope Profile) [] (get (codes "memberOfTypes") e.body) in
      let key = entity_key_faults (scope Profile) e.key in
      let part = part_faults Profile EntityType e.body in
      let rest = no_second part _ (no_second key _ h) in
      let shape = shape_same t (get (codes "shape") e.body) (no_second parents.faults _ rest) in
      let key_fine = entity_key_kept e.key (Contains-append_left entities commons (qualified namespace e.key) c) (no_first key _ h) in
      let part_fine = part_kept EntityType e.body (no_first part _ (no_second key _ h)) in
      let rest_fine = sym (λ i. parents.faults ++ (shape i).faults) ∙ rest in (
        λ i. record { parents = parents.items; shape = record_or_empty (shape i).ty },
        λ i. key_fine i ++ (part_fine i ++ rest_fine i),
      )

  applies_same : (t : Table) (o : Option Data) → (applies_read (scope Profile) t o).faults ≡ [] → applies_read (scope Profile) t o ≡ applies_read (scope Cedar4) t o
  unfolding applies_read
  applies_same t None = λ h. refl
  applies_same t (Some d) = λ h.
      let principals = names_at (scope Profile) (unspecified d) (get (codes "principalTypes") d) in
      let resources = names_at (scope Profile) (unspecified d) (get (codes "resourceTypes") d) in
      let context = shape_same t (get (codes "context") d) (no_second resources.faults _ (no_second principals.faults _ (no_second (part_faults Profile AppliesTo d) _ h))) in
      λ i. record {
        principals = set_onto [] principals.items;
        resources = set_onto [] resources.items;
        context = record_or_empty (context i).ty;
        faults = applies_part d i ++ (principals.faults ++ (resources.faults ++ (context i).faults));
      }

  pub action_same : (t : Table) (uids : List Uid) (e : EntryTree) → action_faults (scope Profile) t uids e ≡ [] → (action_of (scope Profile) t uids e ≡ action_of (scope Cedar4) t uids e) × (action_faults (scope Cedar4) t uids e ≡ [])
  unfolding action_faults action_of
  action_same t uids e h =
      let members = ap (λ (f : List Uid → List ℕ → Data → ListRead Uid). list_at (f uids namespace) [] (unless_null (get (codes "memberOf") e.body))) member_same in
      let part = part_faults Profile Action e.body in
      let parents = list_at (member_read Profile uids namespace) [] (unless_null (get (codes "memberOf") e.body)) in
      let rest = no_second part _ h in
      let applies = applies_same t (unless_null (get (codes "appliesTo") e.body)) (no_first (applies_read (scope Profile) t (unless_null (get (codes "appliesTo") e.body))).faults _ (no_second parents.faults _ rest)) in
      let part_fine = part_kept Action e.body (no_first part _ h) in
      let rest_fine = sym (λ i. (members i).faults ++ ((applies i).faults ++ empty_faults (unless_null (get (codes "attributes") e.body)))) ∙ rest in (
        λ i. record { parents = (members i).items; principals = (applies i).principals; resources = (applies i).resources; context = (applies i).context },
        λ i. part_fine i ++ rest_fine i,
      )

-- ---- lists of entries

each_same : {A B : Type 0} (Q : A → Type 0) (f g : A → List SchemaFault) (add more : List B → A → List B) → ((x : A) → Q x → f x ≡ [] → ((done : List B) → add done x ≡ more done x) × (g x ≡ []))
    → (xs : List A) (done : List B) → AllByRecursion Q xs → each_faults f xs ≡ [] → (each_onto add done xs ≡ each_onto more done xs) × (each_faults g xs ≡ [])
unfolding each_faults each_onto
each_same Q f g add more same [] done q h = (refl, refl)
each_same {A} {B} Q f g add more same (x ∷ xs) done q h =
    let this = same x q.0 (no_first (f x) (each_faults f xs) h) in
    let others = each_same Q f g add more same xs (add done x) q.1 (no_second (f x) (each_faults f xs) h) in
    (others.0 ∙ ap (λ (d : List B). each_onto more d xs) (this.0 done), λ i. this.1 i ++ others.1 i)

-- each entry is declared by its whole name
abbrev IsAmong : List (List ℕ) → EntryTree → Type 0
IsAmong names e = Contains names (qualified e.namespace e.key)

all_among : (names : List (List ℕ)) (xs : List EntryTree) → ((n : List ℕ) → Contains (whole_names xs) n → Contains names n) → AllByRecursion (IsAmong names) xs
all_among names [] among = tt
all_among names (x ∷ xs) among = (among _ (here (qualified x.namespace x.key) (whole_names xs)), all_among names xs (λ n h. among n (there (qualified x.namespace x.key) (whole_names xs) n h)))

all_any : {A : Type 0} (xs : List A) → AllByRecursion (λ (x : A). Unit {0}) xs
all_any [] = tt
all_any (x ∷ xs) = (tt, all_any xs)

kept_same : (k : List ℕ) → bytes_eq k (codes "Bool") ≡ false → is_kept Profile k ≡ false → is_kept Cedar4 k ≡ false
unfolding is_kept
kept_same k plain h = λ i. plain i || h i

module _ (entities commons : List (List ℕ)) (apart : ShadowsNone (entities ++ commons)) (bool : DeclaresNone commons (codes "Bool")) (key_word : DeclaresNone commons (codes "EntityOrCommon")) where
  not_bool : (namespace k : List ℕ) → Contains commons (qualified namespace k) → bytes_eq k (codes "Bool") ≡ false
  not_bool namespace k c = at (bytes_eq k (codes "Bool")) refl
    where
      at : (b : Bool) → bytes_eq k (codes "Bool") ≡ b → b ≡ false
      at true e = absurd (bool namespace (subst (λ (n : List ℕ). Contains commons (qualified namespace n)) ((bytes_eq-Decides k (codes "Bool")).0 e) c))
      at false e = refl

  common_key_kept : (e : EntryTree) → IsAmong commons e → common_key_faults (scope_at Profile entities commons e.namespace) e.key ≡ [] → common_key_faults (scope_at Cedar4 entities commons e.namespace) e.key ≡ []
  unfolding common_key_faults
  common_key_kept e c h =
      let text = no_first (key_text_faults e.key) _ h in
      let own = no_fault (is_kept Profile e.key) ReservedName (no_first _ [] (no_second (key_text_faults e.key) _ h)) in
      let still = kept_same e.key (not_bool e.namespace e.key c) own in
      let plain = shadows_none entities commons apart key_word e.namespace e.key (no_colon e.key text) (Contains-append_right entities commons (qualified e.namespace e.key) c) in
      λ i. text i ++ (fault_if (still i) ReservedName ++ fault_if (plain i) ReservedName)

  forms_same : (xs : List EntryTree) → AllByRecursion (IsAmong commons) xs → each_faults (common_faults Profile entities commons) xs ≡ []
      → (forms_of Profile entities commons xs ≡ forms_of Cedar4 entities commons xs) × (each_faults (common_faults Cedar4 entities commons) xs ≡ [])
  unfolding each_faults
  forms_same [] c h = (refl, refl)
  forms_same (x ∷ xs) c h =
      let none = no_first (common_faults Profile entities commons x) (each_faults (common_faults Profile entities commons) xs) h in
      let key = common_key_faults (scope_at Profile entities commons x.namespace) x.key in
      let this = type_same entities commons apart key_word x.namespace CommonType x.body (no_second key _ none) in
      let others = forms_same xs c.1 (no_second (common_faults Profile entities commons x) (each_faults (common_faults Profile entities commons) xs) h) in
      let key_fine = common_key_kept x c.0 (no_first key _ none) in
      let rest_fine = sym (ap (λ (r : Read). r.faults) this) ∙ no_second key _ none in
      ((λ i. (this i).form ∷ others.0 i), (λ i. (key_fine i ++ rest_fine i) ++ others.1 i))

-- ---- the schema

module _ (entities commons : List (List ℕ)) (apart : ShadowsNone (entities ++ commons)) (key_word : DeclaresNone commons (codes "EntityOrCommon")) (uids : List Uid) where
  abbrev setting : Table → Language → Setting
  setting table language = record { language = language; entities = entities; commons = commons; table = table; uids = uids }

  pub setting_same : (t : Table) (es as' : List EntryTree) → AllByRecursion (IsAmong entities) es → setting_faults (setting t Profile) es as' ≡ []
      → (schema_in (setting t Profile) es as' ≡ schema_in (setting t Cedar4) es as') × (setting_faults (setting t Cedar4) es as' ≡ [])
  unfolding schema_in setting_faults
  setting_same t es as' c h =
      let table = each_faults (expansion_faults t) t in
      let first = each_faults (entity_faults (setting t Profile)) es in
      let second = each_faults enumerated_faults es in
      let third = each_faults (one_action_faults (setting t Profile)) as' in
      let rest = no_second table (first ++ (second ++ third)) h in
      let later = no_second first (second ++ third) rest in
      let types = each_same (IsAmong entities) (entity_faults (setting t Profile)) (entity_faults (setting t Cedar4)) (add_entity (setting t Profile)) (add_entity (setting t Cedar4)) one_entity es [] c (no_first first (second ++ third) rest) in
      let actions = each_same (λ x. Unit {0}) (one_action_faults (setting t Profile)) (one_action_faults (setting t Cedar4)) (add_action (setting t Profile)) (add_action (setting t Cedar4)) one_action as' [] (all_any as') (no_second second third later) in (
        λ i. record { entities = types.0 i; actions = actions.0 i; enumerated = each_onto add_enumeration [] es },
        λ i. no_first table (first ++ (second ++ third)) h i ++ (types.1 i ++ (no_first second third later i ++ actions.1 i)),
      )
    where
      one_entity : (x : EntryTree) → IsAmong entities x → entity_faults (setting t Profile) x ≡ [] → ((done : List (List ℕ × EntityTypeTree)) → add_entity (setting t Profile) done x ≡ add_entity (setting t Cedar4) done x) × (entity_faults (setting t Cedar4) x ≡ [])
      one_entity x c none = let same = entity_same entities commons apart key_word x.namespace t x c none in ((λ done. ap (insert_entry text_cmp done (qualified x.namespace x.key)) same.0), same.1)

      one_action : (x : EntryTree) → Unit {0} → one_action_faults (setting t Profile) x ≡ [] → ((done : List (Uid × ActionTree)) → add_action (setting t Profile) done x ≡ add_action (setting t Cedar4) done x) × (one_action_faults (setting t Cedar4) x ≡ [])
      one_action x c none = let same = action_same entities commons apart key_word x.namespace t uids x none in ((λ done. ap (insert_entry uid_cmp done (uid_of x)) same.0), same.1)

module _ (x : Sections) (apart : ShadowsNone (whole_names x.entities ++ whole_names x.commons)) (bool : DeclaresNone (whole_names x.commons) (codes "Bool")) (key_word : DeclaresNone (whole_names x.commons) (codes "EntityOrCommon")) where
  sections_same : sections_faults Profile x ≡ []
      → (schema_in (setting_of Profile x) x.entities x.actions ≡ schema_in (setting_of Cedar4 x) x.entities x.actions) × (sections_faults Cedar4 x ≡ [])
  unfolding sections_faults
  sections_same h =
      let es = whole_names x.entities in
      let cs = whole_names x.commons in
      let forms = forms_same es cs apart bool key_word x.commons (all_among cs x.commons (λ n c. c)) (no_first (each_faults (common_faults Profile es cs) x.commons) _ h) in
      let this = setting_same es cs apart key_word (uids_onto [] x.actions) (forms_of Profile es cs x.commons) x.entities x.actions (all_among es x.entities (λ n c. c)) (no_second (each_faults (common_faults Profile es cs) x.commons) _ h) in
      let made = λ (t : Table). setting es cs apart key_word (uids_onto [] x.actions) t Cedar4 in
      let still = sym (ap (λ (t : Table). setting_faults (made t) x.entities x.actions) forms.0) ∙ this.1 in (
        this.0 ∙ ap (λ (t : Table). schema_in (made t) x.entities x.actions) forms.0,
        λ i. forms.1 i ++ still i,
      )

space_kept : (namespace : List ℕ) (d : Data) → space_faults Profile namespace d ≡ [] → space_faults Cedar4 namespace d ≡ []
unfolding space_faults
space_kept namespace d h =
    let name = no_first (namespace_faults namespace) _ h in
    let rest = no_second (namespace_faults namespace) _ h in
    let keys = part_kept Namespace d (no_first (part_faults Profile Namespace d) _ rest) in
    let sections = no_second (part_faults Profile Namespace d) _ rest in
    λ i. name i ++ (keys i ++ sections i)

spaces_kept : (root : Members) → root_faults Profile root ≡ [] → root_faults Cedar4 root ≡ []
spaces_kept no_members h = refl
spaces_kept (member namespace d rest) h =
    let this = space_kept namespace d (no_first (space_faults Profile namespace d) _ h) in
    let others = spaces_kept rest (no_second (space_faults Profile namespace d) _ h) in λ i. this i ++ others i

root_same : (root : Members) → NamesMeanTheSame root → written_faults Profile root ≡ [] → (schema_of Profile root ≡ schema_of Cedar4 root) × (written_faults Cedar4 root ≡ [])
unfolding written_faults
root_same root names h =
    let sections = sections_faults Profile (sections_of root) in
    let same = sections_same (sections_of root) names.apart names.bool names.key_word (no_second (root_faults Profile root) sections h) in
    let spaces = spaces_kept root (no_first (root_faults Profile root) sections h) in
    (same.0, λ i. spaces i ++ same.1 i)

denoted : (d : Data) (s : SchemaTree) → IfSome (as_object d) NamesMeanTheSame → Denotes Profile d s → Denotes Cedar4 d s
denoted d s names h = at (as_object d) names h
  where
    at : (o : Option Members) → IfSome o NamesMeanTheSame → MatchOption o ⊥ (λ root. IsFine (written_faults Profile root) (schema_of Profile root) s) → MatchOption o ⊥ (λ root. IsFine (written_faults Cedar4 root) (schema_of Cedar4 root) s)
    at None names k = k
    at (Some root) names k =
        let same = root_same root names k.fine in
        record { fine = same.1; acyclic = subst (λ (t : SchemaTree). (u : Uid) → ¬ ActionDescends t u u) same.0 k.acyclic; is = k.is ∙ same.0 }

pub profile_kept : ProfileSchemasAreKept
profile_kept bytes s names h = at (json_of bytes) names h
  where
    at : (o : Option Data) → IfSome o (λ d. IfSome (as_object d) NamesMeanTheSame) → MatchOption o ⊥ (λ d. Denotes Profile d s) → MatchOption o ⊥ (λ d. Denotes Cedar4 d s)
    at None names k = k
    at (Some d) names k = denoted d s names k
