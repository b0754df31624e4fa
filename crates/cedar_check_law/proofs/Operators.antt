-- Each operator, on values of the types that its rule asks for.
use Rattle.std.proofs.Common.{◌≡◌, ℕ, ℤ, Bool, true, false, cond, not, ◌&&◌, ◌||◌, is_some, List, [], ◌∷◌, map, Contains, ◌⊎◌, inl, inr, ⊎_elim, Option, Some, None, refl, sym, ap, subst, ◌∙◌}
use Rattle.std.specs.Prelude.{Ok, Err, IsTrue, pos, ◌+ℤ◌, ◌-ℤ◌, ◌*ℤ◌, int_lt, int_le, Result}
use Rattle.std.specs.Option.{option_map}
use Rattle.std.specs.Bool.{Decides, one_answer}
use Rattle.std.specs.List.{AllByRecursion, list_all, list_any}
use Rattle.std.specs.Map.{keys_of}
use Rattle.std.specs.Str.{bytes_eq}
use Rattle.cedar_ext.specs.declared.extension.Extension.{Extension}
use Rattle.cedar_ext.specs.declared.extension.ExtensionType.{ExtensionType}
use Rattle.cedar_ext.specs.declared.extension.ExtensionType.TheVariants as extension_type
use Rattle.cedar_ext.specs.declared.method.BinaryMethod.{BinaryMethod}
use Rattle.cedar_ext.specs.declared.method_error.MethodError.{MethodError}
use Rattle.cedar_ext.specs.declared.method_error.MethodError.TheVariants as method_error
use Rattle.cedar_ext.specs.declared.scalar.Scalar.{Scalar}
use Rattle.cedar_ext.specs.declared.scalar.Scalar.TheVariants as scalar
use Rattle.cedar_ext.specs.declared.scalar.ScalarType.{ScalarType}
use Rattle.cedar_ext.specs.declared.scalar.ScalarType.TheVariants as scalar_type
use Rattle.cedar_ext.specs.declared.unary_method.UnaryMethod.{UnaryMethod}
use Rattle.cedar_ext.specs.Extensions.{type_of, extension_of}
use Rattle.cedar_ext.specs.UnaryMethods.{unary_row_of, unary_call_of}
use Rattle.cedar_ext.specs.Methods.{row_of, call_of, HasType, Gives, is_ordered, ordered_of}
use Rattle.cedar_ext.specs.Private.ExtensionLemmas.{extension_of-typed}
use Rattle.cedar_ext.specs.Private.RowsTyped.{rows_typed, unary_typed, ordered_typed}
use Rattle.cedar_value.specs.Datum.{Datum, boolean, long, text, uid, set, record_of, extension, same, same_uid, list_of, members_of, pairs_of, fields_of}
use Rattle.cedar_value.specs.Private.Equality.{same_uid-Decides}
use Rattle.cedar_value.specs.Private.Lists.{list_of-members_of, pairs_of-fields_of}
use Rattle.cedar_value.proofs.Reach.{below-Decides}
use Rattle.cedar_value.specs.Records.{value_at}
use Rattle.cedar_value.specs.Sets.{has_member, set_from}
use Rattle.cedar_value.specs.World.{World, EntityTree, entry_of, below, Below}
use Rattle.cedar_value.specs.declared.request.Request.{Request}
use Rattle.cedar_value.specs.declared.uid.Uid.{Uid}
use Rattle.cedar_ast_expressions.specs.declared.operator.BinaryOperator.{BinaryOperator}
use Rattle.cedar_ast_expressions.specs.declared.operator.BinaryOperator.TheVariants as binary_operator
use Rattle.cedar_ast_expressions.specs.declared.error.EvaluationError.TheVariants.{Overflow}
use Rattle.cedar_ast_expressions.specs.Answer.{Answer, with_answer}
use Rattle.cedar_ast_expressions.specs.Expression.{Expression, literal, set_with, Expressions, no_more, and_then}
use Rattle.cedar_ast_expressions.specs.Evaluation.{truth_of, and_of, or_of, if_of, set_of_values, eval, eval_all}
use Rattle.cedar_ast_expressions.specs.Operators.{is_long, long_or_overflow, not_of, negative_of, Source, no_source, absent, present, entity_source, source, has_in, attribute_of, get_in, like_of, is_of, extension_or_error, constructed, datum_of_scalar, scalar_or_error, called, binary_of, of_longs, of_set, of_sets, is_uid, is_in, in_of, called_alone, compared}
use Rattle.cedar_schema_types.specs.declared.truth.Truth.{Truth}
use Rattle.cedar_schema_types.specs.declared.truth.Truth.TheVariants.{True, False, Any}
use Rattle.cedar_schema_types.specs.Types.{TypeTree, Attributes, no_attributes}
use Rattle.cedar_schema_types.specs.Types as kind
use Rattle.cedar_schema_spec.specs.SchemaTree.{SchemaTree, shape_of}
use Rattle.cedar_schema_spec.specs.Descents.{ActionDescends, TypeDescends}
use Rattle.cedar_schema_spec.specs.WellFormed.{AreTypesApart}
use Rattle.cedar_schema_types.specs.Membership.{known, HasTruth, IsBoolean, IsEntity, MayStand, IsAbsent, Member, At}
use Rattle.cedar_schema_spec.specs.Declarations.{IsAction, is_action}
use Rattle.cedar_schema_spec.specs.Conformance.{IsOfSchema, of_type, of_action, Conforms}
use Rattle.cedar_check_spec.specs.Capabilities.{Capabilities, Hold}
use Rattle.cedar_check_spec.specs.Typing.{shape_attributes, attributes_in, flipped, is_arithmetic, is_comparison, type_of_scalar, takes_any_string, is_set_comparison, one_uid, joined_uids, all_uids, written_uids, IsInOne, IsOrDescends, Target, one_entity, entity_set}
use Rattle.cedar_schema_types.specs.Lookup.{attribute_at}
use Rattle.cedar_schema_types.specs.declared.attribute.Attribute.{Attribute}
use Rattle.cedar_check_spec.specs.Soundness.{GoodWith}
use Rattle.cedar_check_law.proofs.Goodness.{then_good, good_weaker}
use Rattle.cedar_check_spec.proofs.Members.{FitsDeclared, HaveAttributes, at-find}
use Rattle.cedar_value.proofs.SetMembers.{set_all, any-set_from}
use Rattle.base_reach.proofs.Listed.{here, there, is_false, either_decides, decides_as, any_decides}
use Rattle.cedar_check_law.proofs.Descents.{is_action-Decides, shape_declared}
use Rattle.cedar_check_spec.specs.declared.settings.Settings.{Settings}

-- a member of the type; where it is true, what is gained holds
pub record Fine (q : Request) (w : World) (t : TypeTree) (g : Capabilities) (v : Datum) : Type 0 where
  pub belongs : Member t v
  pub gains : v ≡ boolean true → Hold q w g

pub nothing_held : (q : Request) (w : World) → Hold q w []
nothing_held q w = λ x m. absurd m

pub plain : (settings : Settings) (q : Request) (w : World) (t : TypeTree) (o : Answer Datum) → GoodWith settings (Member t) o → GoodWith settings (Fine q w t []) o
plain settings q w t o h = good_weaker settings (Member t) (Fine q w t []) o h (λ v m. record { belongs = m; gains = λ e. nothing_held q w })

pub members : (settings : Settings) (q : Request) (w : World) (t : TypeTree) (g : Capabilities) (o : Answer Datum) → GoodWith settings (Fine q w t g) o → GoodWith settings (Member t) o
members settings q w t g o h = good_weaker settings (Fine q w t g) (Member t) o h (λ v m. m.belongs)

abbrev says : Bool → Answer Datum
says b = Ok (boolean b)

said : (a b : Bool) → says a ≡ says b → a ≡ b
said a b e = cc

-- a Boolean is one of two
boolean_cases : (P : Bool → Type 0) (Q : Datum → Type 0) (v : Datum) → IsBoolean P v → (v ≡ boolean true → P true → Q (boolean true)) → (v ≡ boolean false → P false → Q (boolean false)) → Q v
boolean_cases P Q (boolean true) h on_true on_false = on_true refl h
boolean_cases P Q (boolean false) h on_true on_false = on_false refl h
boolean_cases P Q _ h on_true on_false = absurd h

module _ (settings : Settings) (q : Request) (w : World) where
  -- the right side, which must be a Boolean
  right_side : (f fr : Truth) (g gr : Capabilities) (r : Answer Datum) → GoodWith settings (Fine q w (kind.boolean f) g) r → ((x : Bool) → HasTruth f x → HasTruth fr x) → (HasTruth f true → Hold q w g → Hold q w gr) → GoodWith settings (Fine q w (kind.boolean fr) gr) (with_answer r truth_of)
  right_side f fr g gr r h forms gains =
      then_good settings (Fine q w (kind.boolean f) g) (Fine q w (kind.boolean fr) gr) r truth_of h
      (λ v fine. boolean_cases (HasTruth f) (λ x. Fine q w (kind.boolean f) g x → GoodWith settings (Fine q w (kind.boolean fr) gr) (truth_of x)) v fine.belongs
      (λ e p. λ m. record { belongs = forms true p; gains = λ d. gains p (m.gains refl) })
      (λ e p. λ m. record { belongs = forms false p; gains = λ d. cc })
      fine)

  pub and_good : (f fb fr : Truth) (ga gb g : Capabilities) (a b : Answer Datum) → GoodWith settings (Fine q w (kind.boolean f) ga) a → (HasTruth f true → Hold q w ga → GoodWith settings (Fine q w (kind.boolean fb) gb) b) → (HasTruth f true → (x : Bool) → HasTruth fb x → HasTruth fr x) → (HasTruth f false → HasTruth fr false) → (Hold q w ga → Hold q w gb → Hold q w g) → GoodWith settings (Fine q w (kind.boolean fr) g) (with_answer a (λ x. and_of x b))
  and_good f fb fr ga gb g a b left right on_true on_false gains =
      then_good settings (Fine q w (kind.boolean f) ga) (Fine q w (kind.boolean fr) g) a (λ x. and_of x b) left
      (λ v fine. boolean_cases (HasTruth f) (λ x. Fine q w (kind.boolean f) ga x → GoodWith settings (Fine q w (kind.boolean fr) g) (and_of x b)) v fine.belongs
      (λ e p. λ m. right_side fb fr gb g b (right p (m.gains refl)) (on_true p) (λ d. gains (m.gains refl)))
      (λ e p. λ m. record { belongs = on_false p; gains = λ d. cc })
      fine)

  pub or_good : (f fb fr : Truth) (ga gb g : Capabilities) (a b : Answer Datum) → GoodWith settings (Fine q w (kind.boolean f) ga) a → (HasTruth f false → GoodWith settings (Fine q w (kind.boolean fb) gb) b) → (HasTruth f true → HasTruth fr true) → (HasTruth f false → (x : Bool) → HasTruth fb x → HasTruth fr x) → (HasTruth f true → Hold q w ga → Hold q w g) → (HasTruth fb true → Hold q w gb → Hold q w g) → GoodWith settings (Fine q w (kind.boolean fr) g) (with_answer a (λ x. or_of x b))
  or_good f fb fr ga gb g a b left right on_true on_false gains_left gains_right =
      then_good settings (Fine q w (kind.boolean f) ga) (Fine q w (kind.boolean fr) g) a (λ x. or_of x b) left
      (λ v fine. boolean_cases (HasTruth f) (λ x. Fine q w (kind.boolean f) ga x → GoodWith settings (Fine q w (kind.boolean fr) g) (or_of x b)) v fine.belongs
      (λ e p. λ m. record { belongs = on_true p; gains = λ d. gains_left p (m.gains refl) })
      (λ e p. λ m. right_side fb fr gb g b (right p) (on_false p) gains_right)
      fine)

  pub if_good : (f : Truth) (gi g : Capabilities) (t : TypeTree) (i x y : Answer Datum) → GoodWith settings (Fine q w (kind.boolean f) gi) i → (HasTruth f true → Hold q w gi → GoodWith settings (Fine q w t g) x) → (HasTruth f false → GoodWith settings (Fine q w t g) y) → GoodWith settings (Fine q w t g) (with_answer i (λ v. if_of v x y))
  if_good f gi g t i x y left on_true on_false =
      then_good settings (Fine q w (kind.boolean f) gi) (Fine q w t g) i (λ v. if_of v x y) left
      (λ v fine. boolean_cases (HasTruth f) (λ z. Fine q w (kind.boolean f) gi z → GoodWith settings (Fine q w t g) (if_of z x y)) v fine.belongs
      (λ e p. λ m. on_true p (m.gains refl))
      (λ e p. λ m. on_false p)
      fine)

-- forms
pub known_truth : (b : Bool) → HasTruth (known b) b
known_truth true = refl
known_truth false = refl

pub known_as : (b d : Bool) → b ≡ d → HasTruth (known d) b
known_as b d e = subst (λ x. HasTruth (known x) b) e (known_truth b)

flipped_truth : (f : Truth) (b : Bool) → HasTruth f b → HasTruth (flipped f) (not b)
flipped_truth True b h = ap not h
flipped_truth False b h = ap not h
flipped_truth Any b h = tt

-- unary operators
pub not_good : (settings : Settings) (f : Truth) (v : Datum) → Member (kind.boolean f) v → GoodWith settings (Member (kind.boolean (flipped f))) (not_of v)
not_good settings f (boolean b) h = flipped_truth f b h
not_good settings f _ h = absurd h

long_at : (settings : Settings) (b : Bool) (n : ℤ) → GoodWith settings (Member kind.long) (cond b (Ok (long n)) (Err Overflow))
long_at settings true n = tt
long_at settings false n = tt

long_good : (settings : Settings) (n : ℤ) → GoodWith settings (Member kind.long) (long_or_overflow n)
long_good settings n = long_at settings (is_long n) n

pub negative_good : (settings : Settings) (v : Datum) → Member kind.long v → GoodWith settings (Member kind.long) (negative_of v)
negative_good settings (long n) h = long_good settings (pos 0 -ℤ n)
negative_good settings _ h = absurd h

-- constructors
decimal_allowed : (settings : Settings) (x : ExtensionType) → takes_any_string settings x ≡ true → IsTrue settings.any_decimal
decimal_allowed settings extension_type.Decimal on = on
decimal_allowed settings _ on = cc

read_good : (settings : Settings) (x : ExtensionType) (o : Option Extension) → takes_any_string settings x ≡ true → ((e : Extension) → o ≡ Some e → type_of e ≡ x) → GoodWith settings (Member (kind.extension x)) (extension_or_error o)
read_good settings x None on typed = decimal_allowed settings x on
read_good settings x (Some e) on typed = typed e refl

pub constructor_good : (settings : Settings) (x : ExtensionType) (v : Datum) → takes_any_string settings x ≡ true → Member kind.string v → GoodWith settings (Member (kind.extension x)) (constructed x v)
constructor_good settings x (text s) on h = read_good settings x (extension_of x s) on (extension_of-typed x s)
constructor_good settings x _ on h = absurd h

pub like_good : (settings : Settings) (f : List ℕ → Bool) (v : Datum) → Member kind.string v → GoodWith settings (Member (kind.boolean Any)) (like_of v f)
like_good settings f (text s) h = tt
like_good settings f _ h = absurd h

pub is_good : (settings : Settings) (m n : List ℕ) (v : Datum) → Member (kind.entity m) v → GoodWith settings (Member (kind.boolean (known (bytes_eq m n)))) (is_of n v)
is_good settings m n (uid u) h = known_as (bytes_eq u.ty n) (bytes_eq m n) (ap (λ k. bytes_eq k n) h)
is_good settings m n _ h = absurd h

-- binary operators
longs_good : (settings : Settings) (t : TypeTree) (f : ℤ → ℤ → Answer Datum) (v x : Datum) → Member kind.long v → Member kind.long x → ((a b : ℤ) → GoodWith settings (Member t) (f a b)) → GoodWith settings (Member t) (of_longs f v x)
longs_good settings t f (long a) (long b) h k each = each a b
longs_good settings t f (long a) _ h k each = absurd k
longs_good settings t f _ x h k each = absurd h

pub arithmetic_good : (settings : Settings) (w : World) (op : BinaryOperator) (v x : Datum) → is_arithmetic op ≡ true → Member kind.long v → Member kind.long x → GoodWith settings (Member kind.long) (binary_of w op v x)
arithmetic_good settings w binary_operator.Add v x e h k = longs_good settings kind.long (λ m n. long_or_overflow (m +ℤ n)) v x h k (λ a b. long_good settings (a +ℤ b))
arithmetic_good settings w binary_operator.Subtract v x e h k = longs_good settings kind.long (λ m n. long_or_overflow (m -ℤ n)) v x h k (λ a b. long_good settings (a -ℤ b))
arithmetic_good settings w binary_operator.Multiply v x e h k = longs_good settings kind.long (λ m n. long_or_overflow (m *ℤ n)) v x h k (λ a b. long_good settings (a *ℤ b))
arithmetic_good settings w _ v x e h k = cc

-- methods
scalar_member : (k : ScalarType) (v : Scalar) → HasType k v → Member (type_of_scalar k) (datum_of_scalar v)
scalar_member scalar_type.Boolean (scalar.Boolean b) h = tt
scalar_member scalar_type.Long (scalar.Long n) h = tt
scalar_member (scalar_type.Extension t) (scalar.Extension e) h = h
scalar_member _ _ h = absurd h

gives_good : (settings : Settings) (k : ScalarType) (r : Result Scalar MethodError) → Gives k r → GoodWith settings (Member (type_of_scalar k)) (scalar_or_error r)
gives_good settings k (Ok v) h = scalar_member k v h
gives_good settings k (Err method_error.Overflow) h = tt
gives_good settings k (Err method_error.«Type») h = absurd h

pub unary_method_good : (settings : Settings) (m : UnaryMethod) (v : Datum) → Member (kind.extension (unary_row_of m).operand) v → GoodWith settings (Member (type_of_scalar (unary_row_of m).result)) (called_alone m v)
unary_method_good settings m (extension e) h = gives_good settings (unary_row_of m).result (unary_call_of m e) (unary_typed m e h)
unary_method_good settings m _ h = absurd h

pub method_good : (settings : Settings) (m : BinaryMethod) (v x : Datum) → Member (kind.extension (row_of m).left) v → Member (kind.extension (row_of m).right) x → GoodWith settings (Member (type_of_scalar (row_of m).result)) (called m v x)
method_good settings m (extension a) (extension b) h k = gives_good settings (row_of m).result (call_of m a b) (rows_typed m a b h k)
method_good settings m (extension a) _ h k = absurd k
method_good settings m _ x h k = absurd h

-- `<` and `<=`
longs_compared : (settings : Settings) (f : ℤ → ℤ → Bool) (v x : Datum) → Member kind.long v → Member kind.long x → GoodWith settings (Member (kind.boolean Any)) (compared f v x)
longs_compared settings f (long a) (long b) h k = tt
longs_compared settings f (long a) _ h k = absurd k
longs_compared settings f _ x h k = absurd h

pub comparison_good : (settings : Settings) (w : World) (op : BinaryOperator) (v x : Datum) → is_comparison op ≡ true → Member kind.long v → Member kind.long x → GoodWith settings (Member (kind.boolean Any)) (binary_of w op v x)
comparison_good settings w binary_operator.Less v x e h k = longs_compared settings int_lt v x h k
comparison_good settings w binary_operator.LessEqual v x e h k = longs_compared settings int_le v x h k
comparison_good settings w _ v x e h k = cc

extensions_compared : (settings : Settings) (f : ℤ → ℤ → Bool) (t : ExtensionType) (v x : Datum) → is_ordered t ≡ true → Member (kind.extension t) v → Member (kind.extension t) x → GoodWith settings (Member (kind.boolean Any)) (compared f v x)
extensions_compared settings f t (extension a) (extension b) o h k = gives_good settings scalar_type.Boolean (ordered_of f a b) (ordered_typed f t a b o h k)
extensions_compared settings f t (extension a) _ o h k = absurd k
extensions_compared settings f t _ x o h k = absurd h

pub ordered_good : (settings : Settings) (w : World) (op : BinaryOperator) (t : ExtensionType) (v x : Datum) → is_comparison op ≡ true → is_ordered t ≡ true → Member (kind.extension t) v → Member (kind.extension t) x → GoodWith settings (Member (kind.boolean Any)) (binary_of w op v x)
ordered_good settings w binary_operator.Less t v x e o h k = extensions_compared settings int_lt t v x o h k
ordered_good settings w binary_operator.LessEqual t v x e o h k = extensions_compared settings int_le t v x o h k
ordered_good settings w _ t v x e o h k = cc

pub apart_good : (settings : Settings) (m n : List ℕ) (v x : Datum) → Member (kind.entity m) v → Member (kind.entity n) x → (m ≡ n → ⊥) → GoodWith settings (Member (kind.boolean False)) (Ok (boolean (same v x)))
apart_good settings m n (uid a) (uid b) h k d = is_false (same_uid a b) (λ e. d (sym h ∙ ap (λ (u : Uid). u.ty) ((same_uid-Decides a b).0 e) ∙ k))
apart_good settings m n (uid a) _ h k d = absurd k
apart_good settings m n _ x h k d = absurd h

pub contains_good : (settings : Settings) (t : TypeTree) (f : List Datum → Bool) (v : Datum) → Member (kind.set t) v → GoodWith settings (Member (kind.boolean Any)) (of_set f v)
contains_good settings t f (set ms) h = tt
contains_good settings t f _ h = absurd h

sets_both : (settings : Settings) (t u : TypeTree) (f : List Datum → List Datum → Bool) (v x : Datum) → Member (kind.set t) v → Member (kind.set u) x → GoodWith settings (Member (kind.boolean Any)) (of_sets f v x)
sets_both settings t u f (set ms) (set ns) h k = tt
sets_both settings t u f (set ms) _ h k = absurd k
sets_both settings t u f _ x h k = absurd h

pub sets_good : (settings : Settings) (w : World) (op : BinaryOperator) (t u : TypeTree) (v x : Datum) → is_set_comparison op ≡ true → Member (kind.set t) v → Member (kind.set u) x → GoodWith settings (Member (kind.boolean Any)) (binary_of w op v x)
sets_good settings w binary_operator.ContainsAll t u v x e h k = sets_both settings t u (λ ms ns. list_all (has_member ms) ns) v x h k
sets_good settings w binary_operator.ContainsAny t u v x e h k = sets_both settings t u (λ ms ns. list_any (has_member ms) ns) v x h k
sets_good settings w _ t u v x e h k = cc

-- the set of members of a type
pub set_good : (t : TypeTree) (vs : List Datum) → AllByRecursion (Member t) vs → Member (kind.set t) (set_of_values vs)
set_good t vs h = subst (λ xs. AllByRecursion (Member t) xs) (sym (list_of-members_of (set_from vs))) (set_all (Member t) vs h)

-- tests over members
all_test : (P : Datum → Type 0) (f : Datum → Bool) (vs : List Datum) → ((v : Datum) → P v → f v ≡ true) → AllByRecursion P vs → list_all f vs ≡ true
all_test P f [] each h = refl
all_test P f (v ∷ vs) each h = ap (λ b. b && list_all f vs) (each v h.0) ∙ all_test P f vs each h.1

none_test : (P : Datum → Type 0) (f : Datum → Bool) (vs : List Datum) → ((v : Datum) → P v → f v ≡ false) → AllByRecursion P vs → list_any f vs ≡ false
none_test P f [] each h = refl
none_test P f (v ∷ vs) each h = ap (λ b. b || list_any f vs) (each v h.0) ∙ none_test P f vs each h.1

is_entity_uid : (n : List ℕ) (v : Datum) → IsEntity n v → is_uid v ≡ true
is_entity_uid n (uid u) h = refl
is_entity_uid n _ h = absurd h

chosen : (settings : Settings) (P : Datum → Type 0) (b : Bool) (x y : Answer Datum) → b ≡ true → GoodWith settings P x → GoodWith settings P (cond b x y)
chosen settings P b x y e h = subst (λ d. GoodWith settings P (cond d x y)) (sym e) h

-- what a source may have
abbrev pub SourceFits : Attributes → Source → Type 0
SourceFits at no_source = ⊥
SourceFits at absent = Unit {0}
SourceFits at (present ps) = HaveAttributes at ps

-- what `has` and `.` give there
no_attribute : (o : Option Datum) → IsAbsent o → is_some o ≡ false
no_attribute None h = refl
no_attribute (Some v) h = absurd h

pub has_none_good : (settings : Settings) (a : List ℕ) (at : Attributes) (src : Source) → SourceFits at src → attribute_at a at ≡ None → GoodWith settings (Member (kind.boolean False)) (has_in a src)
has_none_good settings a at no_source h e = absurd h
has_none_good settings a at absent h e = refl
has_none_good settings a at (present ps) h e = no_attribute (value_at a ps) (subst (λ d. FitsDeclared d (value_at a ps)) e (at-find at a (value_at a ps) (h a)))

pub has_good : (settings : Settings) (a : List ℕ) (at : Attributes) (src : Source) → SourceFits at src → GoodWith settings (Member (kind.boolean Any)) (has_in a src)
has_good settings a at no_source h = absurd h
has_good settings a at absent h = tt
has_good settings a at (present ps) h = tt

required_is_there : (r : Bool) (P : Datum → Type 0) (o : Option Datum) → r ≡ true → MayStand r P o → is_some o ≡ true
required_is_there r P None e h = cc
required_is_there r P (Some v) e h = refl

pub has_required_good : (settings : Settings) (w : World) (a : List ℕ) (d : Attribute) (at : Attributes) (v : Datum) → Member (kind.record_of at) v → attribute_at a at ≡ Some d → d.required ≡ true → GoodWith settings (Member (kind.boolean True)) (has_in a (source w v))
has_required_good settings w a d at (record_of fs) h e r = required_is_there d.required (Member d.ty) (value_at a (pairs_of fs)) r (subst (λ x. FitsDeclared x (value_at a (pairs_of fs))) e (at-find at a (value_at a (pairs_of fs)) (h a)))
has_required_good settings w a d at _ h e r = absurd h

found_good : (settings : Settings) (d : Attribute) (o : Option Datum) → MayStand d.required (Member d.ty) o → (d.required ≡ true) ⊎ (is_some o ≡ true) → GoodWith settings (Member d.ty) (attribute_of o)
found_good settings d None h m = ⊎_elim (λ e. cc) (λ e. cc) m
found_good settings d (Some v) h m = h

pub get_good : (settings : Settings) (a : List ℕ) (at : Attributes) (d : Attribute) (src : Source) → SourceFits at src → attribute_at a at ≡ Some d → (d.required ≡ true) ⊎ (has_in a src ≡ Ok (boolean true)) → GoodWith settings (Member d.ty) (get_in a src)
get_good settings a at d no_source h e m = absurd h
get_good settings a at d absent h e m = tt
get_good settings a at d (present ps) h e m =
    found_good settings d (value_at a ps) (subst (λ x. FitsDeclared x (value_at a ps)) e (at-find at a (value_at a ps) (h a)))
    (⊎_elim (λ r. inl r) (λ r. inr (said (is_some (value_at a ps)) true r)) m)

-- an entity of the world is one of its list
entry_step : (b : Bool) (u : Uid) (e : EntityTree) (w : World) (x : EntityTree) → same_uid e.uid u ≡ b → cond b (Some e) (entry_of w u) ≡ Some x → (entry_of w u ≡ Some x → Contains w x × (x.uid ≡ u)) → Contains (e ∷ w) x × (x.uid ≡ u)
entry_step true u e w x p h rest =
    let same_entry : e ≡ x = cc in
    (subst (λ y. Contains (e ∷ w) y) same_entry (here e w), ap (λ (y : EntityTree). y.uid) (sym same_entry) ∙ (same_uid-Decides e.uid u).0 p)
entry_step false u e w x p h rest = let r = rest h in (there e w x r.0, r.1)

entry_listed : (w : World) (u : Uid) (x : EntityTree) → entry_of w u ≡ Some x → Contains w x × (x.uid ≡ u)
entry_listed [] u x h = cc
entry_listed (e ∷ w) u x h = entry_step (same_uid e.uid u) u e w x refl h (entry_listed w u x)

-- what the world's conformance says
module _ (s : SchemaTree) (w : World) (apart : AreTypesApart s) (conforms : Conforms s w) where
  pub below_type : (u v : Uid) → below w u v ≡ true → TypeDescends s u.ty v.ty
  below_type u v e = go (is_action s u) refl
    where
      chain : Below w u v
      chain = (below-Decides w u v).0 e

      go : (b : Bool) → is_action s u ≡ b → TypeDescends s u.ty v.ty
      go true a = inr (u, v, refl, refl, (conforms.actions u v ((is_action-Decides s u).0 a)).0 chain)
      go false a = conforms.above u v (λ m. let t = (is_action-Decides s u).1 m in cc) chain

  unreached : (m n : List ℕ) (x : Uid) (v : Datum) → x.ty ≡ m → (IsOrDescends s m n → ⊥) → IsEntity n v → is_in w x v ≡ false
  unreached m n x (uid y) k d h =
      let apart_uids : same_uid x y ≡ false = is_false (same_uid x y) (λ e. d (inl (sym k ∙ ap (λ (u : Uid). u.ty) ((same_uid-Decides x y).0 e) ∙ h))) in
      let not_below : below w x y ≡ false = is_false (below w x y) (λ e. d (inr (subst (λ a. TypeDescends s a n) k (subst (TypeDescends s x.ty) h (below_type x y e))))) in
      ap (λ b. b || below w x y) apart_uids ∙ not_below
  unreached m n x _ k d h = absurd h

  pub related_good : (settings : Settings) (m n : List ℕ) (t : TypeTree) (v x : Datum) → Target t n → Member (kind.entity m) v → Member t x → GoodWith settings (Member (kind.boolean Any)) (in_of w v x)
  related_good settings m n t (uid a) (uid b) one_entity h k = tt
  related_good settings m n t (uid a) (set ms) entity_set h k = chosen settings (Member (kind.boolean Any)) (list_all is_uid (list_of ms)) (Ok (boolean (list_any (is_in w a) (list_of ms)))) _ (all_test (IsEntity n) is_uid (list_of ms) (is_entity_uid n) k) tt
  related_good settings m n t (uid a) _ one_entity h k = absurd k
  related_good settings m n t (uid a) _ entity_set h k = absurd k
  related_good settings m n t _ x d h k = absurd h

  pub unrelated_good : (settings : Settings) (m n : List ℕ) (t : TypeTree) (v x : Datum) → Target t n → Member (kind.entity m) v → Member t x → (IsOrDescends s m n → ⊥) → GoodWith settings (Member (kind.boolean False)) (in_of w v x)
  unrelated_good settings m n t (uid a) (uid b) one_entity h k d = unreached m n a (uid b) h d k
  unrelated_good settings m n t (uid a) (set ms) entity_set h k d =
      chosen settings (Member (kind.boolean False)) (list_all is_uid (list_of ms)) (Ok (boolean (list_any (is_in w a) (list_of ms)))) _
      (all_test (IsEntity n) is_uid (list_of ms) (is_entity_uid n) k)
      (none_test (IsEntity n) (is_in w a) (list_of ms) (λ v p. unreached m n a v h d p) k)
  unrelated_good settings m n t (uid a) _ one_entity h k d = absurd k
  unrelated_good settings m n t (uid a) _ entity_set h k d = absurd k
  unrelated_good settings m n t _ x e h k d = absurd h

  -- an entity's attributes have its type's shape
  no_shape : (n : List ℕ) (o : Option TypeTree) → shape_of s n ≡ o → (Contains (keys_of s.entities) n → ⊥) → o ≡ None
  no_shape n None e never = refl
  no_shape n (Some t) e never = absurd (never (shape_declared s n t e))

  action_shape : (u : Uid) → IsAction s u → shape_of s u.ty ≡ None
  action_shape u (k, lt, is) = no_shape u.ty (shape_of s u.ty) refl (subst (λ (x : Uid). Contains (keys_of s.entities) x.ty → ⊥) is (apart k u lt))

  record_shape : (t : TypeTree) (at : Attributes) (ps : List (List ℕ × Datum)) → shape_attributes (Some t) ≡ Some at → Member t (record_of (fields_of ps)) → HaveAttributes at ps
  record_shape (kind.record_of a) at ps e h =
      let same_attributes : a ≡ at = cc in
      subst (λ b. HaveAttributes b ps) same_attributes (λ k. subst (λ xs. At a k (value_at k xs)) (pairs_of-fields_of ps) (h k))
  record_shape _ at ps e h = cc

  no_pairs : (at : Attributes) (ps : List (List ℕ × Datum)) → Some no_attributes ≡ Some at → ps ≡ [] → HaveAttributes at ps
  no_pairs at ps e p =
      let same_attributes : no_attributes ≡ at = cc in
      subst (λ b. HaveAttributes b ps) same_attributes (subst (λ xs. HaveAttributes no_attributes xs) (sym p) (λ k. tt))

  entity_fits : (e : EntityTree) (at : Attributes) → IsOfSchema s e → shape_attributes (shape_of s e.uid.ty) ≡ Some at → HaveAttributes at e.attributes
  entity_fits e at (of_type {t = t} p h) k = record_shape t at e.attributes (ap shape_attributes (sym p) ∙ k) h
  entity_fits e at (of_action a p) k = no_pairs at e.attributes (ap shape_attributes (sym (action_shape e.uid a)) ∙ k) p

  entity_source_fits : (u : Uid) (at : Attributes) (o : Option EntityTree) → entry_of w u ≡ o → shape_attributes (shape_of s u.ty) ≡ Some at → SourceFits at (entity_source (option_map (λ e. e.attributes) o))
  entity_source_fits u at None e k = tt
  entity_source_fits u at (Some x) e k =
      let there_is = entry_listed w u x e in
      entity_fits x at (conforms.entities x there_is.0) (ap (λ (y : Uid). shape_attributes (shape_of s y.ty)) there_is.1 ∙ k)

  pub source_fits : (t : TypeTree) (at : Attributes) (v : Datum) → attributes_in s t ≡ Some at → Member t v → SourceFits at (source w v)
  source_fits (kind.record_of a) at (record_of fs) e h = let d : a ≡ at = cc in subst (λ b. HaveAttributes b (pairs_of fs)) d h
  source_fits (kind.record_of a) at _ e h = absurd h
  source_fits (kind.entity n) at (uid u) e h = entity_source_fits u at (entry_of w u) refl (ap (λ k. shape_attributes (shape_of s k)) h ∙ e)
  source_fits (kind.entity n) at _ e h = absurd h
  source_fits _ at v e h = cc

  -- an action among uids that are written
  abbrev pub is_or_below : Uid → Uid → Bool
  is_or_below u v = same_uid u v || below w u v

  pub is_or_below-Decides : (u v : Uid) → IsAction s u → Decides (is_or_below u v) ((u ≡ v) ⊎ ActionDescends s u v)
  is_or_below-Decides u v a =
      either_decides (same_uid u v) (below w u v) (u ≡ v) (ActionDescends s u v) (same_uid-Decides u v)
      (decides_as (below w u v) (Below w u v) (ActionDescends s u v) (below-Decides w u v) (conforms.actions u v a).0 (conforms.actions u v a).1)

  written_truth : (u : Uid) (us : List Uid) (r : Bool) → IsAction s u → Decides r (IsInOne s u us) → list_any (is_or_below u) us ≡ r
  written_truth u us r a d = one_answer (list_any (is_or_below u) us) r (any_decides (is_or_below u) (λ v. (u ≡ v) ⊎ ActionDescends s u v) us (λ v. is_or_below-Decides u v a)) d

  module _ (q : Request) where
    joined_step : (e : Expression) (es : Expressions) (us : List Uid) (o : Option Uid) (p : Option (List Uid)) → ((u : Uid) → o ≡ Some u → eval e q w ≡ Ok (uid u)) → ((vs : List Uid) → p ≡ Some vs → eval_all es q w ≡ Ok (map uid vs)) → joined_uids o p ≡ Some us → eval_all (and_then e es) q w ≡ Ok (map uid us)
    joined_step e es us (Some u) (Some vs) f g h =
        let is : u ∷ vs ≡ us = cc in
        ap (λ x. with_answer x (λ v. with_answer (eval_all es q w) (λ vs. Ok (v ∷ vs)))) (f u refl)
        ∙ ap (λ x. with_answer x (λ vs. Ok (uid u ∷ vs))) (g vs refl)
        ∙ ap (λ xs. Ok (map uid xs)) is
    joined_step e es us (Some u) None f g h = cc
    joined_step e es us None p f g h = cc

    one_given : (e : Expression) (u : Uid) → one_uid e ≡ Some u → eval e q w ≡ Ok (uid u)
    one_given (literal (uid v)) u h = let is : v ≡ u = cc in ap (λ x. Ok (uid x)) is
    one_given _ u h = cc

    all_given : (es : Expressions) (us : List Uid) → all_uids es ≡ Some us → eval_all es q w ≡ Ok (map uid us)
    all_given no_more us h = let is : [] ≡ us = cc in ap (λ xs. Ok (map uid xs)) is
    all_given (and_then e es) us h = joined_step e es us (one_uid e) (all_uids es) (one_given e) (all_given es) h

    uids_all : (us : List Uid) → AllByRecursion (λ v. is_uid v ≡ true) (map uid us)
    uids_all [] = tt
    uids_all (u ∷ us) = (refl, uids_all us)

    any_uids : (u : Uid) (us : List Uid) → list_any (is_in w u) (map uid us) ≡ list_any (is_or_below u) us
    any_uids u [] = refl
    any_uids u (v ∷ us) = ap (λ b. is_or_below u v || b) (any_uids u us)

    or_nothing : (b : Bool) → (b || false) ≡ b
    or_nothing true = refl
    or_nothing false = refl

    chosen_answer : (b : Bool) (x y : Answer Datum) → b ≡ true → cond b x y ≡ x
    chosen_answer true x y e = refl
    chosen_answer false x y e = cc

    -- in the set of these uids
    pub in_set : (u : Uid) (us : List Uid) → in_of w (uid u) (set_of_values (map uid us)) ≡ says (list_any (is_or_below u) us)
    in_set u us =
        let xs = map uid us in
        let ms = list_of (members_of (set_from xs)) in
        let is : ms ≡ set_from xs = list_of-members_of (set_from xs) in
        let every : AllByRecursion (λ v. is_uid v ≡ true) ms = subst (λ l. AllByRecursion (λ v. is_uid v ≡ true) l) (sym is) (set_all (λ v. is_uid v ≡ true) xs (uids_all us)) in
        chosen_answer (list_all is_uid ms) (says (list_any (is_in w u) ms)) _ (all_test (λ v. is_uid v ≡ true) is_uid ms (λ v h. h) every)
        ∙ ap says (ap (list_any (is_in w u)) is ∙ any-set_from (is_in w u) xs ∙ any_uids u us)

    pub written_good : (settings : Settings) (u : Uid) (b : Expression) (us : List Uid) (r : Bool) → IsAction s u → written_uids b ≡ Some us → Decides r (IsInOne s u us) → GoodWith settings (Member (kind.boolean (known r))) (with_answer (eval b q w) (in_of w (uid u)))
    written_good settings u (literal (uid v)) us r a e d =
        let is : v ∷ [] ≡ us = cc in
        known_as (is_in w u (uid v)) r (sym (or_nothing (is_or_below u v)) ∙ ap (list_any (is_or_below u)) is ∙ written_truth u us r a d)
    written_good settings u (set_with es) us r a e d =
        let found = ap (λ x. with_answer (with_answer x (λ vs. Ok (set_of_values vs))) (in_of w (uid u))) (all_given es us e) ∙ in_set u us in
        subst (λ o. GoodWith settings (Member (kind.boolean (known r))) o) (sym found) (known_as (list_any (is_or_below u) us) r (written_truth u us r a d))
    written_good settings u _ us r a e d = cc
