-- The function's answer is a typing.
use Rattle.std.proofs.Common.{◌≡◌, ℕ, Bool, true, false, cond, not, ◌&&◌, ◌||◌, is_some, List, [], ◌∷◌, ◌++◌, ◌⊎◌, inl, inr, ⊎_elim, Option, Some, None, option_map, option_and_then, refl, sym, ap, subst, ◌∙◌}
use Rattle.std.specs.Bool.{Decides}
use Rattle.std.specs.List.{list_any}
use Rattle.std.specs.Str.{bytes_eq}
use Rattle.std.proofs.lemmas.Slice.Eq.{bytes_eq-Decides}
use Rattle.cedar_ext.specs.declared.extension.ExtensionType.{ExtensionType}
use Rattle.cedar_ext.specs.declared.method.BinaryMethod.{BinaryMethod}
use Rattle.cedar_ext.specs.Extensions.{extension_of}
use Rattle.cedar_ext.specs.UnaryMethods.{unary_row_of}
use Rattle.cedar_ext.specs.Methods.{row_of, is_ordered}
use Rattle.cedar_ext.specs.Private.ExtensionLemmas.{same_type-Decides}
use Rattle.cedar_value.specs.Datum.{Datum, boolean, long, text, uid, same, same_uid}
use Rattle.cedar_value.specs.Private.Equality.{same_uid-Decides}
use Rattle.cedar_value.specs.declared.uid.Uid.{Uid}
use Rattle.cedar_ast_expressions.specs.declared.variable.Variable.{Variable}
use Rattle.cedar_ast_expressions.specs.declared.variable.Variable.TheVariants.{Principal, Action, Resource, Context}
use Rattle.cedar_ast_expressions.specs.declared.operator.UnaryOperator.{UnaryOperator}
use Rattle.cedar_ast_expressions.specs.declared.operator.UnaryOperator.TheVariants as operator
use Rattle.cedar_ast_expressions.specs.declared.operator.BinaryOperator.{BinaryOperator}
use Rattle.cedar_ast_expressions.specs.declared.operator.BinaryOperator.TheVariants as binary_operator
use Rattle.cedar_ast_expressions.specs.Expression.{Expression, literal, variable, and, or, if_else, unary, binary, set_with, record_with, Expressions, no_more, and_then, Entries, no_entries, entry}
use Rattle.cedar_ast_expressions.specs.Keys.{keys_in}
use Rattle.cedar_schema_types.specs.declared.truth.Truth.{Truth}
use Rattle.cedar_schema_types.specs.declared.truth.Truth.TheVariants.{True, False, Any}
use Rattle.cedar_schema_spec.specs.declared.environment.Environment.{Environment}
use Rattle.cedar_schema_types.specs.Types.{TypeTree, Attributes, no_attributes, is_record}
use Rattle.cedar_schema_types.specs.Types as kind
use Rattle.cedar_schema_types.specs.Joining.{only_if, join}
use Rattle.cedar_schema_types.specs.Joins.{Join}
use Rattle.cedar_check_spec.proofs.Members.{join_sound}
use Rattle.cedar_schema_spec.specs.SchemaTree.{SchemaTree}
use Rattle.cedar_schema_spec.specs.Descents.{ActionDescends, TypeDescends}
use Rattle.cedar_schema_spec.specs.Enumerated.{is_listed}
use Rattle.cedar_schema_types.specs.Membership.{known}
use Rattle.cedar_schema_spec.specs.Declarations.{is_entity, is_entity_type, is_action, is_action_type, action_below, type_below}
use Rattle.cedar_check_spec.specs.Capabilities.{Capability, Capabilities, Has, IsUnion, IsCommon}
use Rattle.cedar_check_spec.specs.Typing.{attributes_in, flipped, is_arithmetic, is_comparison, type_of_scalar, takes_any_string, is_set_comparison, MayHold, two_literals, written_uids, NamesAction, AreWritten, IsInOne, IsOrDescends, Target, one_entity, entity_set, is_literal, TypesWith, of_boolean, of_long, of_text, of_uid, of_principal, of_resource, of_context, of_not, and_false, and_then_false, and_then_true, and_then_any, or_true, or_false, or_any_true, or_any_false, or_any_any, if_true, if_false, if_any, of_negative, of_arithmetic, of_comparison, equal_literals, equal_joined, equal_apart, has_none, has_held, has_required, has_any, of_get, of_like, of_is, in_written, in_related, in_unrelated, of_contains, of_set_comparison, of_is_empty, of_set, of_record, of_constructor, of_any_string, of_method, JoinsOnto, joined_all, joined_more, AddsOnto, added_all, added_more, of_ordered, of_unary_method}
use Rattle.cedar_schema_types.specs.Lookup.{attribute_at}
use Rattle.cedar_schema_types.specs.declared.attribute.Attribute.{Attribute}
use Rattle.cedar_schema_types.specs.Ordered.{with_attribute}
use Rattle.cedar_check_spec.specs.Rows.{Typed, as_type, gaining, truth_in, entity_in, element_in, target_in, is_long, is_string, is_extension, constructed_literal_type, constructor_type, apart, any_or, equal_literal_type, any_if, names_action, is_or_descends, is_in_written, in_truth, any_where, sets_type, longs_type, method_type, binary_type, comparison_type, unary_method_type}
use Rattle.cedar_check_spec.specs.Private.Checking.{is_held, common, are_distinct, on_boolean, on_two, literal_type, variable_type, and_right, and_type, or_right, or_type, if_type, has_type, get_type, unary_type, type_of_with, types_all, types_onto, types_entries}
use Rattle.base_reach.proofs.Listed.{both_true, either_true, either_decides, any_decides}
use Rattle.cedar_check_law.proofs.Descents.{is_action-Decides, is_action_type-Decides, action_below-Decides, type_below-Decides}
use Rattle.cedar_check_spec.proofs.Trees.{cap_from_test, no_cap_from_test, distinct_from_test}
use Rattle.cedar_check_spec.specs.declared.settings.Settings.{Settings}

-- taking apart an answer that is there
pub and_then_some : {A B : Type 0} (f : A → Option B) (r : Option A) (x : B) → option_and_then f r ≡ Some x → (a : A) × (r ≡ Some a) × (f a ≡ Some x)
and_then_some f None x e = cc
and_then_some f (Some a) x e = (a, refl, e)

pub map_some : {A B : Type 0} (f : A → B) (r : Option A) (x : B) → option_map f r ≡ Some x → (a : A) × (r ≡ Some a) × (f a ≡ x)
map_some f None x e = cc
map_some f (Some a) x e = let d : f a ≡ x = cc in (a, refl, d)

pub only_if_some : {A : Type 0} (b : Bool) (r : Option A) (x : A) → only_if b r ≡ Some x → (b ≡ true) × (r ≡ Some x)
only_if_some true r x e = (refl, e)
only_if_some false r x e = cc

there_is : {A : Type 0} (r : Option A) → is_some r ≡ true → (x : A) × (r ≡ Some x)
there_is (Some x) e = (x, refl)
there_is None e = cc

pub form_is : (t : TypeTree) (f : Truth) → truth_in t ≡ Some f → t ≡ kind.boolean f
form_is (kind.boolean g) f e = cc
form_is _ f e = cc

entity_is : (t : TypeTree) (n : List ℕ) → entity_in t ≡ Some n → t ≡ kind.entity n
entity_is (kind.entity m) n e = cc
entity_is _ n e = cc

element_is : (t u : TypeTree) → element_in t ≡ Some u → t ≡ kind.set u
element_is (kind.set v) u e = cc
element_is _ u e = cc

target_is : (t : TypeTree) (n : List ℕ) → target_in t ≡ Some n → Target t n
target_is (kind.entity m) n e = let d : m ≡ n = cc in subst (λ (x : List ℕ). Target (kind.entity m) x) d one_entity
target_is (kind.set t) n e = subst (λ (x : TypeTree). Target (kind.set x) n) (sym (entity_is t n e)) entity_set
target_is _ n e = cc

long_is : (t : TypeTree) → is_long t ≡ true → t ≡ kind.long
long_is kind.long e = refl
long_is _ e = cc

text_is : (t : TypeTree) → is_string t ≡ true → t ≡ kind.string
text_is kind.string e = refl
text_is _ e = cc

extension_is : (x : ExtensionType) (t : TypeTree) → is_extension x t ≡ true → t ≡ kind.extension x
extension_is x (kind.extension y) e = ap kind.extension (sym ((same_type-Decides x y).0 e))
extension_is x _ e = cc

-- capabilities
append_has : (x : Capability) (a b : Capabilities) → Has x (a ++ b) → Has x a ⊎ Has x b
append_has x [] b m = inr m
append_has x (y ∷ a) b m = ⊎_elim (λ d. inl (inl d)) (λ r. ⊎_elim (λ p. inl (inr p)) (λ q. inr q) (append_has x a b r)) m

left_has : (x : Capability) (a b : Capabilities) → Has x a → Has x (a ++ b)
left_has x [] b m = absurd m
left_has x (y ∷ a) b m = ⊎_elim (λ d. inl d) (λ r. inr (left_has x a b r)) m

right_has : (x : Capability) (a b : Capabilities) → Has x b → Has x (a ++ b)
right_has x [] b m = m
right_has x (y ∷ a) b m = inr (right_has x a b m)

pub union_append : (a b : Capabilities) → IsUnion a b (a ++ b)
union_append a b = record { each = λ x. (append_has x a b, λ m. ⊎_elim (left_has x a b) (right_has x a b) m) }

common_step : (d : Bool) (x y : Capability) (xs ys : Capabilities) → is_held y ys ≡ d → Has x (cond d (y ∷ common xs ys) (common xs ys)) → (Has x (common xs ys) → Has x xs × Has x ys) → Has x (y ∷ xs) × Has x ys
common_step true x y xs ys e m rest = ⊎_elim (λ d. (inl d, subst (λ (z : Capability). Has z ys) d (cap_from_test y ys e))) (λ r. let p = rest r in (inr p.0, p.1)) m
common_step false x y xs ys e m rest = let p = rest m in (inr p.0, p.1)

common_has : (x : Capability) (a b : Capabilities) → Has x (common a b) → Has x a × Has x b
common_has x [] b m = absurd m
common_has x (y ∷ a) b m = common_step (is_held y b) x y a b refl m (common_has x a b)

keep_step : (d : Bool) (x y : Capability) (xs ys : Capabilities) → is_held y ys ≡ d → (y ≡ x) ⊎ Has x xs → Has x ys → (Has x xs → Has x (common xs ys)) → Has x (cond d (y ∷ common xs ys) (common xs ys))
keep_step true x y xs ys e m n rest = ⊎_elim (λ d. inl d) (λ r. inr (rest r)) m
keep_step false x y xs ys e m n rest = ⊎_elim (λ d. absurd (no_cap_from_test y ys e (subst (λ (z : Capability). Has z ys) (sym d) n))) rest m

has_common : (x : Capability) (a b : Capabilities) → Has x a → Has x b → Has x (common a b)
has_common x [] b m n = absurd m
has_common x (y ∷ a) b m n = keep_step (is_held y b) x y a b refl m n (λ r. has_common x a b r n)

pub common_is : (a b : Capabilities) → IsCommon a b (common a b)
common_is a b = record { each = λ x. (common_has x a b, λ p. has_common x a b p.0 p.1) }

-- a Boolean, or two types, and what follows
record OnBool (r : Option Typed) (k : Truth → Capabilities → Option Typed) (x : Typed) : Type 0 where
  typed : Typed
  form : Truth
  given : r ≡ Some typed
  is : typed.ty ≡ kind.boolean form
  next : k form typed.gained ≡ Some x

on_bool_some : (r : Option Typed) (k : Truth → Capabilities → Option Typed) (x : Typed) → on_boolean r k ≡ Some x → OnBool r k x
on_bool_some r k x e =
    let p = and_then_some (λ (t : Typed). option_and_then (λ (f : Truth). k f t.gained) (truth_in t.ty)) r x e in
    let q = and_then_some (λ (f : Truth). k f p.0.gained) (truth_in p.0.ty) x p.2 in
    record { typed = p.0; form = q.0; given = p.1; is = form_is p.0.ty q.0 q.1; next = q.2 }

record OnTwo (a b : Option Typed) (k : TypeTree → TypeTree → Option TypeTree) (x : Typed) : Type 0 where
  left : Typed
  right : Typed
  ty : TypeTree
  has_left : a ≡ Some left
  has_right : b ≡ Some right
  next : k left.ty right.ty ≡ Some ty
  end : as_type ty ≡ Some x

on_two_some : (a b : Option Typed) (k : TypeTree → TypeTree → Option TypeTree) (x : Typed) → on_two a b k ≡ Some x → OnTwo a b k x
on_two_some a b k x e =
    let p = and_then_some (λ (t : Typed). option_and_then (λ (u : Typed). option_and_then as_type (k t.ty u.ty)) b) a x e in
    let q = and_then_some (λ (u : Typed). option_and_then as_type (k p.0.ty u.ty)) b x p.2 in
    let r = and_then_some as_type (k p.0.ty q.0.ty) x q.2 in
    record { left = p.0; right = q.0; ty = r.0; has_left = p.1; has_right = q.1; next = r.1; end = r.2 }

module _ (settings : Settings) (s : SchemaTree) (env : Environment) where
  -- a typing whose type and gains these are
  abbrev IsTyped : Capabilities → Expression → Typed → Type 0
  IsTyped h e x = TypesWith settings s env h e x.ty x.gained

  from_some : (h : Capabilities) (e : Expression) (y x : Typed) → Some y ≡ Some x → IsTyped h e y → IsTyped h e x
  from_some h e y x d t = let p : y ≡ x = cc in subst (IsTyped h e) p t

  as_form : (h : Capabilities) (e : Expression) (t : TypeTree) (g : Capabilities) (u : TypeTree) → t ≡ u → TypesWith settings s env h e t g → TypesWith settings s env h e u g
  as_form h e t g u d h' = subst (λ (x : TypeTree). TypesWith settings s env h e x g) d h'

  found_literal : (h : Capabilities) (l : Datum) (x : Typed) → literal_type s l ≡ Some x → IsTyped h (literal l) x
  found_literal h (boolean b) x e = from_some h (literal (boolean b)) (record { ty = kind.boolean (known b); gained = [] }) x e of_boolean
  found_literal h (long n) x e = from_some h (literal (long n)) (record { ty = kind.long; gained = [] }) x e of_long
  found_literal h (text t) x e = from_some h (literal (text t)) (record { ty = kind.string; gained = [] }) x e of_text
  found_literal h (uid u) x e =
      let p = only_if_some (is_entity s u || is_action s u) (as_type (kind.entity u.ty)) x e in
      from_some h (literal (uid u)) (record { ty = kind.entity u.ty; gained = [] }) x p.1 (of_uid (⊎_elim (λ z. inl (both_true (is_entity_type s u.ty) (is_listed s u) z)) (λ z. inr ((is_action-Decides s u).0 z)) (either_true (is_entity s u) (is_action s u) p.0)))
  found_literal h _ x e = cc

  found_variable : (h : Capabilities) (v : Variable) (x : Typed) → variable_type env v ≡ Some x → IsTyped h (variable v) x
  found_variable h Principal x e = from_some h (variable Principal) (record { ty = kind.entity env.principal; gained = [] }) x e of_principal
  found_variable h Action x e = cc
  found_variable h Resource x e = from_some h (variable Resource) (record { ty = kind.entity env.resource; gained = [] }) x e of_resource
  found_variable h Context x e = from_some h (variable Context) (record { ty = env.context; gained = [] }) x e of_context

  found_and_right : (h : Capabilities) (a b : Expression) (f fb : Truth) (ga gb : Capabilities) (x : Typed) → TypesWith settings s env h a (kind.boolean f) ga → MayHold f → TypesWith settings s env (h ++ ga) b (kind.boolean fb) gb → and_right f ga fb gb ≡ Some x → IsTyped h (and a b) x
  found_and_right h a b f False ga gb x da m db e = from_some h (and a b) (record { ty = kind.boolean False; gained = [] }) x e (and_then_false da m (union_append h ga) db)
  found_and_right h a b f True ga gb x da m db e = from_some h (and a b) (record { ty = kind.boolean f; gained = ga ++ gb }) x e (and_then_true da m (union_append h ga) db (union_append ga gb))
  found_and_right h a b f Any ga gb x da m db e = from_some h (and a b) (record { ty = kind.boolean Any; gained = ga ++ gb }) x e (and_then_any da m (union_append h ga) db (union_append ga gb))

  found_and : (h : Capabilities) (a b : Expression) (f : Truth) (ga : Capabilities) (x : Typed) → TypesWith settings s env h a (kind.boolean f) ga → ((k : Capabilities) (y : Typed) → type_of_with settings s env k b ≡ Some y → IsTyped k b y) → and_type h (λ k. type_of_with settings s env k b) f ga ≡ Some x → IsTyped h (and a b) x
  found_and h a b False ga x da rest e = from_some h (and a b) (record { ty = kind.boolean False; gained = [] }) x e (and_false da)
  found_and h a b True ga x da rest e =
      let p = on_bool_some (type_of_with settings s env (h ++ ga) b) (and_right True ga) x e in
      found_and_right h a b True p.form ga p.typed.gained x da tt (as_form (h ++ ga) b p.typed.ty p.typed.gained (kind.boolean p.form) p.is (rest (h ++ ga) p.typed p.given)) p.next
  found_and h a b Any ga x da rest e =
      let p = on_bool_some (type_of_with settings s env (h ++ ga) b) (and_right Any ga) x e in
      found_and_right h a b Any p.form ga p.typed.gained x da tt (as_form (h ++ ga) b p.typed.ty p.typed.gained (kind.boolean p.form) p.is (rest (h ++ ga) p.typed p.given)) p.next

  found_or_right : (h : Capabilities) (a b : Expression) (fb : Truth) (ga gb : Capabilities) (x : Typed) → TypesWith settings s env h a (kind.boolean Any) ga → TypesWith settings s env h b (kind.boolean fb) gb → or_right ga fb gb ≡ Some x → IsTyped h (or a b) x
  found_or_right h a b True ga gb x da db e = from_some h (or a b) (record { ty = kind.boolean True; gained = [] }) x e (or_any_true da db)
  found_or_right h a b False ga gb x da db e = from_some h (or a b) (record { ty = kind.boolean Any; gained = ga }) x e (or_any_false da db)
  found_or_right h a b Any ga gb x da db e = from_some h (or a b) (record { ty = kind.boolean Any; gained = common ga gb }) x e (or_any_any da db (common_is ga gb))

  found_or : (h : Capabilities) (a b : Expression) (f : Truth) (ga : Capabilities) (x : Typed) → TypesWith settings s env h a (kind.boolean f) ga → ((y : Typed) → type_of_with settings s env h b ≡ Some y → IsTyped h b y) → or_type (type_of_with settings s env h b) f ga ≡ Some x → IsTyped h (or a b) x
  found_or h a b True ga x da rest e = from_some h (or a b) (record { ty = kind.boolean True; gained = [] }) x e (or_true da)
  found_or h a b False ga x da rest e =
      let p = on_bool_some (type_of_with settings s env h b) (λ f gb. gaining (kind.boolean f) gb) x e in
      from_some h (or a b) (record { ty = kind.boolean p.form; gained = p.typed.gained }) x p.next (or_false da (as_form h b p.typed.ty p.typed.gained (kind.boolean p.form) p.is (rest p.typed p.given)))
  found_or h a b Any ga x da rest e =
      let p = on_bool_some (type_of_with settings s env h b) (or_right ga) x e in
      found_or_right h a b p.form ga p.typed.gained x da (as_form h b p.typed.ty p.typed.gained (kind.boolean p.form) p.is (rest p.typed p.given)) p.next

  found_if : (h : Capabilities) (i a b : Expression) (f : Truth) (gi : Capabilities) (x : Typed) → TypesWith settings s env h i (kind.boolean f) gi → ((k : Capabilities) (y : Typed) → type_of_with settings s env k a ≡ Some y → IsTyped k a y) → ((y : Typed) → type_of_with settings s env h b ≡ Some y → IsTyped h b y) → if_type (λ g. type_of_with settings s env (h ++ g) a) (type_of_with settings s env h b) f gi ≡ Some x → IsTyped h (if_else i a b) x
  found_if h i a b True gi x di first second e =
      let p = map_some (λ (t : Typed). let y : Typed = record { ty = t.ty; gained = gi ++ t.gained } in y) (type_of_with settings s env (h ++ gi) a) x e in
      let y : Typed = record { ty = p.0.ty; gained = gi ++ p.0.gained } in
      subst (IsTyped h (if_else i a b)) {x = y} p.2 (if_true di (union_append h gi) (first (h ++ gi) p.0 p.1) (union_append gi p.0.gained))
  found_if h i a b False gi x di first second e = if_false di (second x e)
  found_if h i a b Any gi x di first second e =
      let end = λ (t u : Typed) (v : TypeTree). let y : Typed = record { ty = v; gained = common (gi ++ t.gained) u.gained } in y in
      let p = and_then_some (λ (t : Typed). option_and_then (λ (u : Typed). option_map (end t u) (join t.ty u.ty)) (type_of_with settings s env h b)) (type_of_with settings s env (h ++ gi) a) x e in
      let q = and_then_some (λ (u : Typed). option_map (end p.0 u) (join p.0.ty u.ty)) (type_of_with settings s env h b) x p.2 in
      let r = map_some (end p.0 q.0) (join p.0.ty q.0.ty) x q.2 in
      let y : Typed = end p.0 q.0 r.0 in
      subst (IsTyped h (if_else i a b)) {x = y} r.2 (if_any {v = r.0} di (union_append h gi) (first (h ++ gi) p.0 p.1) (second q.0 q.1) (join_sound p.0.ty q.0.ty r.0 r.1) (union_append gi p.0.gained) (common_is (gi ++ p.0.gained) q.0.gained))

  -- attributes
  not_required : (t : TypeTree) (d : Attribute) → (is_record t && d.required) ≡ false → (is_record t ≡ false) ⊎ (d.required ≡ false)
  not_required (kind.record_of sh) d e = inr e
  not_required _ d e = inl refl

  required_record : (h g : Capabilities) (e : Expression) (a : List ℕ) (t : TypeTree) (sh : Attributes) (d : Attribute) → TypesWith settings s env h e t g → attributes_in s t ≡ Some sh → attribute_at a sh ≡ Some d → (is_record t && d.required) ≡ true → TypesWith settings s env h (unary (operator.Has a) e) (kind.boolean True) []
  required_record h g e a (kind.record_of b) sh d de at f p =
      let q : b ≡ sh = cc in
      has_required (subst (λ (x : Attributes). TypesWith settings s env h e (kind.record_of x) g) q de) f p
  required_record h g e a _ sh d de at f p = cc

  found_has : (h g : Capabilities) (e : Expression) (a : List ℕ) (t : TypeTree) (sh : Attributes) (d : Attribute) (b c : Bool) (x : Typed) → TypesWith settings s env h e t g → attributes_in s t ≡ Some sh → attribute_at a sh ≡ Some d → is_held (record { on = e; key = a }) h ≡ b → (is_record t && d.required) ≡ c → cond (b || c) (as_type (kind.boolean True)) (gaining (kind.boolean Any) (record { on = e; key = a } ∷ [])) ≡ Some x → IsTyped h (unary (operator.Has a) e) x
  found_has h g e a t sh d true c x de at f p q r = from_some h (unary (operator.Has a) e) (record { ty = kind.boolean True; gained = [] }) x r (has_held de at f (cap_from_test (record { on = e; key = a }) h p))
  found_has h g e a t sh d false true x de at f p q r = from_some h (unary (operator.Has a) e) (record { ty = kind.boolean True; gained = [] }) x r (required_record h g e a t sh d de at f q)
  found_has h g e a t sh d false false x de at f p q r = from_some h (unary (operator.Has a) e) (record { ty = kind.boolean Any; gained = record { on = e; key = a } ∷ [] }) x r (has_any de at f (no_cap_from_test (record { on = e; key = a }) h p) (not_required t d q))

  found_has_at : (h g : Capabilities) (e : Expression) (a : List ℕ) (t : TypeTree) (sh : Attributes) (m : Option Attribute) (x : Typed) → TypesWith settings s env h e t g → attributes_in s t ≡ Some sh → attribute_at a sh ≡ m → has_type h e a t m ≡ Some x → IsTyped h (unary (operator.Has a) e) x
  found_has_at h g e a t sh None x de at f r = from_some h (unary (operator.Has a) e) (record { ty = kind.boolean False; gained = [] }) x r (has_none de at f)
  found_has_at h g e a t sh (Some d) x de at f r = found_has h g e a t sh d (is_held (record { on = e; key = a }) h) (is_record t && d.required) x de at f refl refl r

  found_get_at : (h g : Capabilities) (e : Expression) (a : List ℕ) (t : TypeTree) (sh : Attributes) (m : Option Attribute) (x : Typed) → TypesWith settings s env h e t g → attributes_in s t ≡ Some sh → attribute_at a sh ≡ m → get_type h e a m ≡ Some x → IsTyped h (unary (operator.Get a) e) x
  found_get_at h g e a t sh None x de at f r = cc
  found_get_at h g e a t sh (Some d) x de at f r =
      let p = only_if_some (d.required || is_held (record { on = e; key = a }) h) (as_type d.ty) x r in
      from_some h (unary (operator.Get a) e) (record { ty = d.ty; gained = [] }) x p.1 (of_get de at f (⊎_elim (λ q. inl q) (λ q. inr (cap_from_test (record { on = e; key = a }) h q)) (either_true d.required (is_held (record { on = e; key = a }) h) p.0)))

  -- constructors
  found_literal_made : (h : Capabilities) (c : ExtensionType) (l : Datum) (x : Typed) → constructed_literal_type c l ≡ Some x → IsTyped h (unary (operator.Construct c) (literal l)) x
  found_literal_made h c (text t) x e =
      let p = only_if_some (is_some (extension_of c t)) (as_type (kind.extension c)) x e in
      let q = there_is (extension_of c t) p.0 in
      from_some h (unary (operator.Construct c) (literal (text t))) (record { ty = kind.extension c; gained = [] }) x p.1 (of_constructor {x = c} {t = t} {v = q.0} q.1)
  found_literal_made h c _ x e = cc

  found_any_string : (h g : Capabilities) (c : ExtensionType) (e : Expression) (t : TypeTree) (x : Typed) → TypesWith settings s env h e t g → is_literal e ≡ false → only_if (takes_any_string settings c && is_string t) (as_type (kind.extension c)) ≡ Some x → IsTyped h (unary (operator.Construct c) e) x
  found_any_string h g c e t x d n r =
      let p = only_if_some (takes_any_string settings c && is_string t) (as_type (kind.extension c)) x r in
      let q = both_true (takes_any_string settings c) (is_string t) p.0 in
      from_some h (unary (operator.Construct c) e) (record { ty = kind.extension c; gained = [] }) x p.1 (of_any_string {x = c} q.0 n (as_form h e t g kind.string (text_is t q.1) d))

  found_constructor : (h g : Capabilities) (c : ExtensionType) (e : Expression) (t : TypeTree) (x : Typed) → TypesWith settings s env h e t g → constructor_type settings c e t ≡ Some x → IsTyped h (unary (operator.Construct c) e) x
  found_constructor h g c (literal l) t x d r = found_literal_made h c l x r
  found_constructor h g c _ t x d r = found_any_string h g c _ t x d refl r

  found_unary : (h : Capabilities) (op : UnaryOperator) (e : Expression) (t x : Typed) → IsTyped h e t → unary_type settings s h op e t ≡ Some x → IsTyped h (unary op e) x
  found_unary h operator.Not e t x d r =
      let p = and_then_some (λ (f : Truth). as_type (kind.boolean (flipped f))) (truth_in t.ty) x r in
      from_some h (unary operator.Not e) (record { ty = kind.boolean (flipped p.0); gained = [] }) x p.2 (of_not (as_form h e t.ty t.gained (kind.boolean p.0) (form_is t.ty p.0 p.1) d))
  found_unary h operator.Negate e t x d r =
      let p = only_if_some (is_long t.ty) (as_type kind.long) x r in
      from_some h (unary operator.Negate e) (record { ty = kind.long; gained = [] }) x p.1 (of_negative (as_form h e t.ty t.gained kind.long (long_is t.ty p.0) d))
  found_unary h (operator.Has a) e t x d r =
      let p = and_then_some (λ (sh : Attributes). has_type h e a t.ty (attribute_at a sh)) (attributes_in s t.ty) x r in
      found_has_at h t.gained e a t.ty p.0 (attribute_at a p.0) x d p.1 refl p.2
  found_unary h (operator.Get a) e t x d r =
      let p = and_then_some (λ (sh : Attributes). get_type h e a (attribute_at a sh)) (attributes_in s t.ty) x r in
      found_get_at h t.gained e a t.ty p.0 (attribute_at a p.0) x d p.1 refl p.2
  found_unary h (operator.Like l) e t x d r =
      let p = only_if_some (is_string t.ty) (as_type (kind.boolean Any)) x r in
      from_some h (unary (operator.Like l) e) (record { ty = kind.boolean Any; gained = [] }) x p.1 (of_like (as_form h e t.ty t.gained kind.string (text_is t.ty p.0) d))
  found_unary h (operator.Is u) e t x d r =
      let p = and_then_some (λ (n : List ℕ). only_if (is_entity_type s u || is_action_type s u) (as_type (kind.boolean (known (bytes_eq n u))))) (entity_in t.ty) x r in
      let q = only_if_some (is_entity_type s u || is_action_type s u) (as_type (kind.boolean (known (bytes_eq p.0 u)))) x p.2 in
      from_some h (unary (operator.Is u) e) (record { ty = kind.boolean (known (bytes_eq p.0 u)); gained = [] }) x q.1 (of_is (as_form h e t.ty t.gained (kind.entity p.0) (entity_is t.ty p.0 p.1) d) (⊎_elim (λ z. inl z) (λ z. inr ((is_action_type-Decides s u).0 z)) (either_true (is_entity_type s u) (is_action_type s u) q.0)))
  found_unary h (operator.Construct c) e t x d r = found_constructor h t.gained c e t.ty x d r
  found_unary h operator.IsEmpty e t x d r =
      let p = and_then_some (λ (m : TypeTree). as_type (kind.boolean Any)) (element_in t.ty) x r in
      from_some h (unary operator.IsEmpty e) (record { ty = kind.boolean Any; gained = [] }) x p.2 (of_is_empty (as_form h e t.ty t.gained (kind.set p.0) (element_is t.ty p.0 p.1) d))
  found_unary h (operator.Call m) e t x d r =
      let operand = (unary_row_of m).operand in
      let made = type_of_scalar (unary_row_of m).result in
      let p = only_if_some (is_extension operand t.ty) (as_type made) x r in
      from_some h (unary (operator.Call m) e) (record { ty = made; gained = [] }) x p.1 (of_unary_method {m = m} (as_form h e t.ty t.gained (kind.extension operand) (extension_is operand t.ty p.0) d))

  -- two operands
  not_apart : (m n : List ℕ) → not (bytes_eq m n) ≡ true → m ≡ n → ⊥
  not_apart m n e p = let b : bytes_eq m n ≡ true = (bytes_eq-Decides m n).1 p in let c : not true ≡ true = ap not (sym b) ∙ e in cc

  from_type : (h : Capabilities) (e : Expression) (t v : TypeTree) → Some t ≡ Some v → TypesWith settings s env h e t [] → TypesWith settings s env h e v []
  from_type h e t v d k = let p : t ≡ v = cc in subst (λ (x : TypeTree). TypesWith settings s env h e x []) p k

  found_apart : (h ga gb : Capabilities) (a b : Expression) (t u v : TypeTree) → TypesWith settings s env h a t ga → TypesWith settings s env h b u gb → two_literals a b ≡ false → (m n : Option (List ℕ)) → entity_in t ≡ m → entity_in u ≡ n → apart m n ≡ Some v → TypesWith settings s env h (binary binary_operator.Equal a b) v []
  found_apart h ga gb a b t u v da db n (Some m) (Some k) p q r =
      let w = only_if_some (not (bytes_eq m k)) (Some (kind.boolean False)) v r in
      from_type h (binary binary_operator.Equal a b) (kind.boolean False) v w.1 (equal_apart n (as_form h a t ga (kind.entity m) (entity_is t m p) da) (as_form h b u gb (kind.entity k) (entity_is u k q) db) (not_apart m k w.0))
  found_apart h ga gb a b t u v da db n (Some m) None p q r = cc
  found_apart h ga gb a b t u v da db n None k p q r = cc

  found_any_or : (h ga gb : Capabilities) (a b : Expression) (t u v : TypeTree) → TypesWith settings s env h a t ga → TypesWith settings s env h b u gb → two_literals a b ≡ false → (m : Option TypeTree) → join t u ≡ m → any_or m (apart (entity_in t) (entity_in u)) ≡ Some v → TypesWith settings s env h (binary binary_operator.Equal a b) v []
  found_any_or h ga gb a b t u v da db n (Some w) j r = from_type h (binary binary_operator.Equal a b) (kind.boolean Any) v r (equal_joined n da db (join_sound t u w j))
  found_any_or h ga gb a b t u v da db n None j r = found_apart h ga gb a b t u v da db n (entity_in t) (entity_in u) refl refl r

  found_literals : (h ga gb : Capabilities) (a b : Expression) (t u v : TypeTree) → TypesWith settings s env h a t ga → TypesWith settings s env h b u gb → equal_literal_type a b ≡ Some v → TypesWith settings s env h (binary binary_operator.Equal a b) v []
  found_literals h ga gb (literal l) (literal m) t u v da db r = from_type h (binary binary_operator.Equal (literal l) (literal m)) (kind.boolean (known (same l m))) v r (equal_literals da db)
  found_literals h ga gb (literal l) _ t u v da db r = cc
  found_literals h ga gb _ b t u v da db r = cc

  found_equal : (h ga gb : Capabilities) (a b : Expression) (t u v : TypeTree) → TypesWith settings s env h a t ga → TypesWith settings s env h b u gb → (c : Bool) → two_literals a b ≡ c → cond c (equal_literal_type a b) (any_or (join t u) (apart (entity_in t) (entity_in u))) ≡ Some v → TypesWith settings s env h (binary binary_operator.Equal a b) v []
  found_equal h ga gb a b t u v da db true n r = found_literals h ga gb a b t u v da db r
  found_equal h ga gb a b t u v da db false n r = found_any_or h ga gb a b t u v da db n (join t u) refl r

  -- `in`
  pub written-Decides : (u : Uid) (us : List Uid) → Decides (list_any (is_or_descends s u) us) (IsInOne s u us)
  written-Decides u us = any_decides (is_or_descends s u) (λ v. (u ≡ v) ⊎ ActionDescends s u v) us (λ v. either_decides (same_uid u v) (action_below s u v) (u ≡ v) (ActionDescends s u v) (same_uid-Decides u v) (action_below-Decides s u v))

  pub related-Decides : (m n : List ℕ) → Decides (bytes_eq m n || type_below s m n) (IsOrDescends s m n)
  related-Decides m n = either_decides (bytes_eq m n) (type_below s m n) (m ≡ n) (TypeDescends s m n) (bytes_eq-Decides m n) (type_below-Decides s m n)

  pub names_action-Decides : (a : Expression) → Decides (names_action s a) (NamesAction s a)
  names_action-Decides (literal (uid u)) = is_action-Decides s u
  names_action-Decides _ = (λ e. cc, λ h. absurd h)

  found_by_types : (h ga gb : Capabilities) (a b : Expression) (m n : List ℕ) (v : TypeTree) → TypesWith settings s env h a (kind.entity m) ga → TypesWith settings s env h b v gb → Target v n → ¬ AreWritten s a b → (c : Bool) → (bytes_eq m n || type_below s m n) ≡ c → TypesWith settings s env h (binary binary_operator.In a b) (kind.boolean (any_if c)) []
  found_by_types h ga gb a b m n v da db k w true e = in_related da db k w ((related-Decides m n).0 e)
  found_by_types h ga gb a b m n v da db k w false e = in_unrelated da db k w (λ r. let t = (related-Decides m n).1 r in let c : true ≡ false = sym t ∙ e in cc)

  found_written : (h ga gb : Capabilities) (a b : Expression) (m n : List ℕ) (v : TypeTree) (o : Option (List Uid)) → TypesWith settings s env h a (kind.entity m) ga → TypesWith settings s env h b v gb → Target v n → NamesAction s a → written_uids b ≡ o → is_some o ≡ true → TypesWith settings s env h (binary binary_operator.In a b) (kind.boolean (known (is_in_written s a o))) []
  found_written h ga gb (literal (uid u)) b m n v (Some us) da db k act e p = in_written da db k act e (written-Decides u us)
  found_written h ga gb (literal (uid u)) b m n v None da db k act e p = cc
  found_written h ga gb _ b m n v o da db k act e p = absurd act

  found_in : (h ga gb : Capabilities) (a b : Expression) (m n : List ℕ) (v : TypeTree) → TypesWith settings s env h a (kind.entity m) ga → TypesWith settings s env h b v gb → Target v n → (c : Bool) → (names_action s a && is_some (written_uids b)) ≡ c → TypesWith settings s env h (binary binary_operator.In a b) (kind.boolean (cond c (known (is_in_written s a (written_uids b))) (any_if (bytes_eq m n || type_below s m n)))) []
  found_in h ga gb a b m n v da db k true e =
      let p = both_true (names_action s a) (is_some (written_uids b)) e in
      found_written h ga gb a b m n v (written_uids b) da db k ((names_action-Decides a).0 p.0) refl p.1
  found_in h ga gb a b m n v da db k false e =
      found_by_types h ga gb a b m n v da db k
      (λ w. let t = (names_action-Decides a).1 w.0 in let d : (names_action s a && is_some (written_uids b)) ≡ true = ap (λ x. x && is_some (written_uids b)) t ∙ w.1 in let c : true ≡ false = sym d ∙ e in cc)
      (bytes_eq m n || type_below s m n) refl

  record Sets (t u v : TypeTree) : Type 0 where
    left : TypeTree
    right : TypeTree
    joined : TypeTree
    is_left : t ≡ kind.set left
    is_right : u ≡ kind.set right
    join : Join left right joined
    end : Some (kind.boolean Any) ≡ Some v

  sets_found : (t u v : TypeTree) → sets_type t u ≡ Some v → Sets t u v
  sets_found t u v r =
      let p = and_then_some (λ (m : TypeTree). option_and_then (λ (n : TypeTree). any_where (join m n)) (element_in u)) (element_in t) v r in
      let q = and_then_some (λ (n : TypeTree). any_where (join p.0 n)) (element_in u) v p.2 in
      let w = map_some (λ (x : TypeTree). kind.boolean Any) (join p.0 q.0) v q.2 in
      record { left = p.0; right = q.0; joined = w.0; is_left = element_is t p.0 p.1; is_right = element_is u q.0 q.1; join = join_sound p.0 q.0 w.0 w.1; end = ap Some w.2 }

  record Longs (t u v n : TypeTree) : Type 0 where
    is_left : t ≡ kind.long
    is_right : u ≡ kind.long
    end : Some n ≡ Some v

  longs_found : (t u v n : TypeTree) → longs_type n t u ≡ Some v → Longs t u v n
  longs_found t u v n r =
      let p = only_if_some (is_long t && is_long u) (Some n) v r in
      let q = both_true (is_long t) (is_long u) p.0 in
      record { is_left = long_is t q.0; is_right = long_is u q.1; end = p.1 }

  module _ (h ga gb : Capabilities) (op : BinaryOperator) (a b : Expression) (t u v : TypeTree) (da : TypesWith settings s env h a t ga) (db : TypesWith settings s env h b u gb) where
    found_arithmetic : is_arithmetic op ≡ true → longs_type kind.long t u ≡ Some v → TypesWith settings s env h (binary op a b) v []
    found_arithmetic is r = let p = longs_found t u v kind.long r in from_type h (binary op a b) kind.long v p.end (of_arithmetic is (as_form h a t ga kind.long p.is_left da) (as_form h b u gb kind.long p.is_right db))

    found_sets : is_set_comparison op ≡ true → sets_type t u ≡ Some v → TypesWith settings s env h (binary op a b) v []
    found_sets is r = let p = sets_found t u v r in from_type h (binary op a b) (kind.boolean Any) v p.end (of_set_comparison is (as_form h a t ga (kind.set p.left) p.is_left da) (as_form h b u gb (kind.set p.right) p.is_right db) p.join)

  found_comparison : (h ga gb : Capabilities) (op : BinaryOperator) (a b : Expression) (t u v : TypeTree) → TypesWith settings s env h a t ga → TypesWith settings s env h b u gb → is_comparison op ≡ true → comparison_type t u ≡ Some v → TypesWith settings s env h (binary op a b) v []
  found_comparison h ga gb op a b kind.long u v da db is r =
      let p = only_if_some (is_long u) (Some (kind.boolean Any)) v r in
      from_type h (binary op a b) (kind.boolean Any) v p.1 (of_comparison is da (as_form h b u gb kind.long (long_is u p.0) db))
  found_comparison h ga gb op a b (kind.extension x) u v da db is r =
      let p = only_if_some (is_ordered x && is_extension x u) (Some (kind.boolean Any)) v r in
      let q = both_true (is_ordered x) (is_extension x u) p.0 in
      from_type h (binary op a b) (kind.boolean Any) v p.1 (of_ordered {x = x} is q.0 da (as_form h b u gb (kind.extension x) (extension_is x u q.1) db))
  found_comparison h ga gb op a b _ u v da db is r = cc

  found_method : (h ga gb : Capabilities) (m : BinaryMethod) (a b : Expression) (t u v : TypeTree) → TypesWith settings s env h a t ga → TypesWith settings s env h b u gb → method_type m t u ≡ Some v → TypesWith settings s env h (binary (binary_operator.Call m) a b) v []
  found_method h ga gb m a b t u v da db r =
      let left = (row_of m).left in
      let right = (row_of m).right in
      let made = type_of_scalar (row_of m).result in
      let p = only_if_some (is_extension left t && is_extension right u) (Some made) v r in
      let q = both_true (is_extension left t) (is_extension right u) p.0 in
      from_type h (binary (binary_operator.Call m) a b) made v p.1 (of_method {m = m} (as_form h a t ga (kind.extension left) (extension_is left t q.0) da) (as_form h b u gb (kind.extension right) (extension_is right u q.1) db))

  found_binary : (h ga gb : Capabilities) (op : BinaryOperator) (a b : Expression) (t u v : TypeTree) → TypesWith settings s env h a t ga → TypesWith settings s env h b u gb → binary_type s op a b t u ≡ Some v → TypesWith settings s env h (binary op a b) v []
  found_binary h ga gb binary_operator.Equal a b t u v da db r = found_equal h ga gb a b t u v da db (two_literals a b) refl r
  found_binary h ga gb binary_operator.Less a b t u v da db r = found_comparison h ga gb binary_operator.Less a b t u v da db refl r
  found_binary h ga gb binary_operator.LessEqual a b t u v da db r = found_comparison h ga gb binary_operator.LessEqual a b t u v da db refl r
  found_binary h ga gb binary_operator.Add a b t u v da db r = found_arithmetic h ga gb binary_operator.Add a b t u v da db refl r
  found_binary h ga gb binary_operator.Subtract a b t u v da db r = found_arithmetic h ga gb binary_operator.Subtract a b t u v da db refl r
  found_binary h ga gb binary_operator.Multiply a b t u v da db r = found_arithmetic h ga gb binary_operator.Multiply a b t u v da db refl r
  found_binary h ga gb binary_operator.In a b t u v da db r =
      let p = and_then_some (λ (m : List ℕ). option_and_then (λ (n : List ℕ). let x : Option TypeTree = Some (kind.boolean (in_truth s a b m n)) in x) (target_in u)) (entity_in t) v r in
      let q = and_then_some (λ (n : List ℕ). let x : Option TypeTree = Some (kind.boolean (in_truth s a b p.0 n)) in x) (target_in u) v p.2 in
      from_type h (binary binary_operator.In a b) (kind.boolean (in_truth s a b p.0 q.0)) v q.2
      (found_in h ga gb a b p.0 q.0 u (as_form h a t ga (kind.entity p.0) (entity_is t p.0 p.1) da) db (target_is u q.0 q.1) (names_action s a && is_some (written_uids b)) refl)
  found_binary h ga gb binary_operator.Contains a b t u v da db r =
      let p = and_then_some (λ (m : TypeTree). any_where (join m u)) (element_in t) v r in
      let q = map_some (λ (x : TypeTree). kind.boolean Any) (join p.0 u) v p.2 in
      from_type h (binary binary_operator.Contains a b) (kind.boolean Any) v (ap Some q.2) (of_contains (as_form h a t ga (kind.set p.0) (element_is t p.0 p.1) da) db (join_sound p.0 u q.0 q.1))
  found_binary h ga gb binary_operator.ContainsAll a b t u v da db r = found_sets h ga gb binary_operator.ContainsAll a b t u v da db refl r
  found_binary h ga gb binary_operator.ContainsAny a b t u v da db r = found_sets h ga gb binary_operator.ContainsAny a b t u v da db refl r
  found_binary h ga gb (binary_operator.Call m) a b t u v da db r = found_method h ga gb m a b t u v da db r

  mutual
    pub found : (e : Expression) (h : Capabilities) (x : Typed) → type_of_with settings s env h e ≡ Some x → IsTyped h e x
    found (literal l) h x r = found_literal h l x r
    found (variable v) h x r = found_variable h v x r
    found (and a b) h x r =
        let p = on_bool_some (type_of_with settings s env h a) (and_type h (λ k. type_of_with settings s env k b)) x r in
        found_and h a b p.form p.typed.gained x (as_form h a p.typed.ty p.typed.gained (kind.boolean p.form) p.is (found a h p.typed p.given)) (λ k y q. found b k y q) p.next
    found (or a b) h x r =
        let p = on_bool_some (type_of_with settings s env h a) (or_type (type_of_with settings s env h b)) x r in
        found_or h a b p.form p.typed.gained x (as_form h a p.typed.ty p.typed.gained (kind.boolean p.form) p.is (found a h p.typed p.given)) (λ y q. found b h y q) p.next
    found (if_else i a b) h x r =
        let p = on_bool_some (type_of_with settings s env h i) (if_type (λ g. type_of_with settings s env (h ++ g) a) (type_of_with settings s env h b)) x r in
        found_if h i a b p.form p.typed.gained x (as_form h i p.typed.ty p.typed.gained (kind.boolean p.form) p.is (found i h p.typed p.given)) (λ k y q. found a k y q) (λ y q. found b h y q) p.next
    found (unary op e) h x r =
        let p = and_then_some (unary_type settings s h op e) (type_of_with settings s env h e) x r in
        found_unary h op e p.0 x (found e h p.0 p.1) p.2
    found (binary op a b) h x r =
        let p = on_two_some (type_of_with settings s env h a) (type_of_with settings s env h b) (binary_type s op a b) x r in
        from_some h (binary op a b) (record { ty = p.ty; gained = [] }) x p.end (found_binary h p.left.gained p.right.gained op a b p.left.ty p.right.ty p.ty (found a h p.left p.has_left) (found b h p.right p.has_right) p.next)
    found (set_with no_more) h x r = cc
    found (set_with (and_then e es)) h x r =
        let p = and_then_some (λ (t : TypeTree). as_type (kind.set t)) (types_all settings s env h (and_then e es)) x r in
        let d = and_then_some (λ (y : Typed). types_onto settings s env h y.ty es) (type_of_with settings s env h e) p.0 p.1 in
        from_some h (set_with (and_then e es)) (record { ty = kind.set p.0; gained = [] }) x p.2 (of_set (found e h d.0 d.1) (found_onto es h d.0.ty p.0 d.2))
    found (record_with fs) h x r =
        let c = only_if_some (are_distinct (keys_in fs)) (option_and_then (λ (at : Attributes). as_type (kind.record_of at)) (types_entries settings s env h no_attributes fs)) x r in
        let p = and_then_some (λ (at : Attributes). as_type (kind.record_of at)) (types_entries settings s env h no_attributes fs) x c.1 in
        from_some h (record_with fs) (record { ty = kind.record_of p.0; gained = [] }) x p.2 (of_record (distinct_from_test (keys_in fs) c.0) (found_entries fs h no_attributes p.0 p.1))

    found_onto : (es : Expressions) (h : Capabilities) (t v : TypeTree) → types_onto settings s env h t es ≡ Some v → JoinsOnto settings s env h t es v
    found_onto no_more h t v r = let p : t ≡ v = cc in subst (λ (x : TypeTree). JoinsOnto settings s env h t no_more x) p joined_all
    found_onto (and_then e es) h t v r =
        let p = and_then_some (λ (x : Typed). option_and_then (λ (u : TypeTree). types_onto settings s env h u es) (join t x.ty)) (type_of_with settings s env h e) v r in
        let d = and_then_some (λ (u : TypeTree). types_onto settings s env h u es) (join t p.0.ty) v p.2 in
        joined_more (found e h p.0 p.1) (join_sound t p.0.ty d.0 d.1) (found_onto es h d.0 v d.2)

    found_entries : (fs : Entries) (h : Capabilities) (at more : Attributes) → types_entries settings s env h at fs ≡ Some more → AddsOnto settings s env h at fs more
    found_entries no_entries h at more r = let p : at ≡ more = cc in subst (λ (x : Attributes). AddsOnto settings s env h at no_entries x) p added_all
    found_entries (entry k e fs) h at more r =
        let p = and_then_some (λ (x : Typed). types_entries settings s env h (with_attribute k true x.ty at) fs) (type_of_with settings s env h e) more r in
        added_more (found e h p.0 p.1) (found_entries fs h (with_attribute k true p.0.ty at) more p.2)
