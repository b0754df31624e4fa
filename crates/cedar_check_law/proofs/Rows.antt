-- Worked examples: the form of a policy's condition in each environment, computed.
use Rattle.std.proofs.Common.{◌≡◌, ℕ, pos, true, false, List, [], ◌∷◌, map, Option, Some, None, codes, refl}
use Rattle.cedar_ext.specs.declared.extension.ExtensionType.TheVariants as extension_type
use Rattle.cedar_ext.specs.declared.method.BinaryMethod.TheVariants as method
use Rattle.cedar_value.specs.Datum.{boolean, long, text, uid}
use Rattle.cedar_value.specs.World.{below}
use Rattle.base_reach.specs.Closure.{leads}
use Rattle.cedar_value.specs.declared.uid.Uid.{Uid}
use Rattle.cedar_ast_expressions.specs.declared.variable.Variable.TheVariants.{Principal, Action, Resource, Context}
use Rattle.cedar_ast_expressions.specs.declared.operator.UnaryOperator.TheVariants as one
use Rattle.cedar_ast_expressions.specs.declared.operator.BinaryOperator.TheVariants as two
use Rattle.cedar_ast.specs.declared.effect.Effect.TheVariants.{Permit}
use Rattle.cedar_ast.specs.declared.scope.EntityScope.{EntityScope}
use Rattle.cedar_ast.specs.declared.scope.EntityScope.TheVariants as entity
use Rattle.cedar_ast.specs.declared.scope.ActionScope.{ActionScope}
use Rattle.cedar_ast.specs.declared.scope.ActionScope.TheVariants as action
use Rattle.cedar_ast.specs.declared.condition.ConditionKind.TheVariants.{When}
use Rattle.cedar_ast_expressions.specs.Private.SameExpression.{same_expression}
use Rattle.cedar_ast_expressions.specs.Expression.{Expression, literal, variable, and, or, if_else, unary, binary, set_with, record_with, expressions_of, entries_of}
use Rattle.cedar_ast.specs.PolicyTree.{PolicyTree}
use Rattle.cedar_schema_types.specs.declared.truth.Truth.{Truth}
use Rattle.cedar_schema_types.specs.declared.truth.Truth.TheVariants.{True, False, Any}
use Rattle.cedar_schema_types.specs.Types.{no_attributes, attribute}
use Rattle.cedar_schema_types.specs.Types as kind
use Rattle.cedar_schema_spec.specs.SchemaTree.{SchemaTree, EntityTypeTree, ActionTree, environments_of}
use Rattle.cedar_ext.specs.declared.language.Language.TheVariants.{Profile}
use Rattle.cedar_check_spec.specs.Settings.{default_settings}
use Rattle.cedar_check_spec.specs.declared.settings.Settings.{Settings}
use Rattle.cedar_check_spec.specs.Private.Reporting.{faults_of_with}
use Rattle.cedar_check_spec.specs.Private.Checking.{form_in_with}

-- ---- a schema: users, who may be in the one team that is listed, admins and docs, and three actions

abbrev pub user_type : EntityTypeTree
user_type = record { parents = codes "Team" ∷ []; shape = kind.record_of (attribute (codes "age") false kind.long no_attributes) }

abbrev pub admin_type : EntityTypeTree
admin_type = record { parents = []; shape = kind.record_of (attribute (codes "level") true kind.long no_attributes) }

abbrev pub doc_type : EntityTypeTree
doc_type = record { parents = []; shape = kind.record_of (attribute (codes "name") true kind.string (attribute (codes "owner") true (kind.entity (codes "User")) no_attributes)) }

abbrev pub team_type : EntityTypeTree
team_type = record { parents = []; shape = kind.record_of no_attributes }

abbrev pub act : List ℕ → Uid
act id = record { ty = codes "Action"; id = id }

abbrev pub deletes : ActionTree
deletes = record { parents = []; principals = codes "User" ∷ []; resources = codes "Doc" ∷ []; context = kind.record_of no_attributes }

abbrev pub reads : ActionTree
reads = record { parents = []; principals = []; resources = []; context = kind.record_of no_attributes }

abbrev pub views : ActionTree
views = record { parents = act (codes "read") ∷ []; principals = codes "Admin" ∷ codes "User" ∷ []; resources = codes "Doc" ∷ []; context = kind.record_of (attribute (codes "n") true kind.long no_attributes) }

abbrev pub schema : SchemaTree
schema = record {
  entities = (codes "Admin", admin_type) ∷ (codes "Doc", doc_type) ∷ (codes "Team", team_type) ∷ (codes "User", user_type) ∷ [];
  actions = (act (codes "delete"), deletes) ∷ (act (codes "read"), reads) ∷ (act (codes "view"), views) ∷ [];
  enumerated = (codes "Team", codes "t" ∷ []) ∷ [];
}

-- ---- policies

abbrev policy : EntityScope Uid → ActionScope Uid → Expression → PolicyTree
policy p a e = record {
  id = codes "policy0";
  annotations = [];
  effect = Permit;
  scope = record { principal = p; action = a; resource = entity.Any };
  conditions = record { kind = When; body = e } ∷ [];
}

-- the forms in the environments of the schema: a user deletes, an admin views, a user views; of none the policy is refused there
abbrev forms_with : Settings → SchemaTree → PolicyTree → List (Option Truth)
forms_with settings s p = map (λ env. form_in_with settings s env p) (environments_of s.actions)

abbrev forms : SchemaTree → PolicyTree → List (Option Truth)
forms = forms_with default_settings

abbrev of_users : Expression → List (Option Truth)
of_users e = forms schema (policy (entity.Is (codes "User")) action.Any e)

abbrev of_all_with : Settings → Expression → List (Option Truth)
of_all_with settings e = forms_with settings schema (policy entity.Any action.Any e)

abbrev of_all : Expression → List (Option Truth)
of_all = of_all_with default_settings

abbrev principal : Expression
principal = variable Principal

abbrev resource : Expression
resource = variable Resource

abbrev number : ℕ → Expression
number n = literal (long (pos n))

abbrev get : Expression → List ℕ → Expression
get e a = unary (one.Get a) e

abbrev has : Expression → List ℕ → Expression
has e a = unary (one.Has a) e

-- `a > b` is `!(a <= b)`
abbrev greater : Expression → Expression → Expression
greater a b = unary one.Not (binary two.LessEqual a b)

abbrev adult : Expression
adult = greater (get principal (codes "age")) (number 0)

abbrev ill_typed : Expression
ill_typed = binary two.Equal (binary two.Add (number 1) (literal (text (codes "a")))) (number 2)

-- an attribute that is not guarded, and one that is
not_guarded : of_users adult ≡ None ∷ Some False ∷ None ∷ []
not_guarded = refl

guarded : of_users (and (has principal (codes "age")) adult) ≡ Some Any ∷ Some False ∷ Some Any ∷ []
unfolding same_expression
guarded = refl

-- a guard on one side of a choice does not count; beside a side that is known false it does
guard_in_choice : of_users (and (or (has principal (codes "age")) (has resource (codes "owner"))) adult) ≡ None ∷ Some False ∷ None ∷ []
guard_in_choice = refl

guard_beside_false : of_users (and (or (has principal (codes "age")) (has principal (codes "level"))) adult) ≡ Some Any ∷ Some False ∷ Some Any ∷ []
unfolding same_expression
guard_beside_false = refl

-- what is after a type test is looked at where the test may hold
behind_test : of_all (and (unary (one.Is (codes "Admin")) principal) (greater (get principal (codes "level")) (number 3))) ≡ Some False ∷ Some Any ∷ Some False ∷ []
behind_test = refl

-- an entity may be absent, so `has` of a required attribute is not known of it; of a record it is
absent_entity : of_all (and (unary one.Not (has resource (codes "owner"))) ill_typed) ≡ None ∷ None ∷ None ∷ []
absent_entity = refl

context_has : forms schema (policy entity.Any (action.Equal (act (codes "view"))) (and (unary one.Not (has (variable Context) (codes "n"))) ill_typed)) ≡ Some False ∷ Some False ∷ Some False ∷ []
context_has = refl

-- an action scope is known, and what is after a false one is not looked at
in_group : forms schema (policy entity.Any (action.In (act (codes "read"))) (literal (boolean true))) ≡ Some False ∷ Some True ∷ Some True ∷ []
unfolding below leads
in_group = refl

never : forms schema (policy entity.Any (action.Equal (act (codes "read"))) (literal (boolean true))) ≡ Some False ∷ Some False ∷ Some False ∷ []
never = refl

-- sets: empty, of unlike members; an attribute that is nowhere
empty_set : of_all (binary two.Equal (set_with (expressions_of [])) (set_with (expressions_of (number 1 ∷ [])))) ≡ None ∷ None ∷ None ∷ []
empty_set = refl

unlike_members : of_all (binary two.Contains (set_with (expressions_of (number 1 ∷ literal (text (codes "a")) ∷ []))) (number 1)) ≡ None ∷ None ∷ None ∷ []
unlike_members = refl

no_attribute : of_all (greater (get resource (codes "size")) (number 0)) ≡ None ∷ None ∷ None ∷ []
no_attribute = refl

-- `isEmpty` wants a set, of whatever members
empty_or_not : of_all (unary one.IsEmpty (set_with (expressions_of (resource ∷ [])))) ≡ Some Any ∷ Some Any ∷ Some Any ∷ []
empty_or_not = refl

no_set : of_all (unary one.IsEmpty (number 1)) ≡ None ∷ None ∷ None ∷ []
no_set = refl

-- a decimal wants one literal that reads
decimals : of_all (binary two.Equal (unary (one.Construct extension_type.Decimal) (literal (text (codes "1.0")))) (unary (one.Construct extension_type.Decimal) (literal (text (codes "1.00"))))) ≡ Some Any ∷ Some Any ∷ Some Any ∷ []
decimals = refl

no_decimal : of_all (binary two.Equal (unary (one.Construct extension_type.Decimal) (literal (text (codes "1.")))) (unary (one.Construct extension_type.Decimal) (literal (text (codes "1.0"))))) ≡ None ∷ None ∷ None ∷ []
no_decimal = refl

-- with the setting on, of any text, and still of no literal that does not read
abbrev any_decimal : Settings
any_decimal = record { any_decimal = true; language = Profile }

abbrev below_two : Expression → Expression
below_two e = binary (two.Call method.LessThan) (unary (one.Construct extension_type.Decimal) e) (unary (one.Construct extension_type.Decimal) (literal (text (codes "2.0"))))

decimal_of_name : of_all_with any_decimal (below_two (get resource (codes "name"))) ≡ Some Any ∷ Some Any ∷ Some Any ∷ []
decimal_of_name = refl

no_decimal_of_name : of_all (below_two (get resource (codes "name"))) ≡ None ∷ None ∷ None ∷ []
no_decimal_of_name = refl

decimal_of_entity : of_all_with any_decimal (below_two (get resource (codes "owner"))) ≡ None ∷ None ∷ None ∷ []
decimal_of_entity = refl

no_decimal_literal : of_all_with any_decimal (below_two (literal (text (codes "1.")))) ≡ None ∷ None ∷ None ∷ []
no_decimal_literal = refl

decimal_literal : of_all_with any_decimal (below_two (literal (text (codes "1.5")))) ≡ Some Any ∷ Some Any ∷ Some Any ∷ []
decimal_literal = refl

-- records: keys in any order; a repeated key has no type
record_keys : of_all (binary two.Equal (record_with (entries_of ((codes "b", number 1) ∷ (codes "a", number 2) ∷ []))) (record_with (entries_of ((codes "a", number 2) ∷ (codes "b", number 1) ∷ [])))) ≡ Some Any ∷ Some Any ∷ Some Any ∷ []
record_keys = refl

repeated_key : of_all (binary two.Equal (record_with (entries_of ((codes "a", number 1) ∷ (codes "a", number 2) ∷ []))) (record_with (entries_of ((codes "a", number 2) ∷ [])))) ≡ None ∷ None ∷ None ∷ []
repeated_key = refl

-- two literals are known, of whatever types
unlike_literals : of_all (binary two.Equal (number 1) (literal (text (codes "a")))) ≡ Some False ∷ Some False ∷ Some False ∷ []
unlike_literals = refl

-- a uid of an enumerated type has a type where the uid is listed alone
abbrev in_team : List ℕ → Expression
in_team id = binary two.In principal (literal (uid (record { ty = codes "Team"; id = id })))

listed_uid : of_all (in_team (codes "t")) ≡ Some Any ∷ Some False ∷ Some Any ∷ []
unfolding below leads
listed_uid = refl

not_listed_uid : of_all (in_team (codes "T")) ≡ None ∷ None ∷ None ∷ []
unfolding below leads
not_listed_uid = refl

-- ---- actions of two namespaces, where the one type's action is below the other's

abbrev in_space : List ℕ → List ℕ → Uid
in_space n id = record { ty = n; id = id }

abbrev plain_action : ActionTree
plain_action = record { parents = []; principals = []; resources = []; context = kind.record_of no_attributes }

abbrev two_spaces : SchemaTree
two_spaces = record {
  entities = (codes "N::R", team_type) ∷ (codes "N::U", team_type) ∷ [];
  actions =
      (in_space (codes "M::Action") (codes "g"), plain_action)
      ∷ (in_space (codes "M::Action") (codes "h"), plain_action)
      ∷ (
        in_space (codes "N::Action") (codes "view"),
        record {
          parents = in_space (codes "M::Action") (codes "g") ∷ [];
          principals = codes "N::U" ∷ [];
          resources = codes "N::R" ∷ [];
          context = kind.record_of (attribute (codes "b") true (kind.boolean Any) no_attributes);
        },
      )
      ∷ [];
  enumerated = [];
}

abbrev in_choice : Expression
in_choice = binary two.In (variable Action) (if_else (get (variable Context) (codes "b")) (literal (uid (in_space (codes "M::Action") (codes "g")))) (literal (uid (in_space (codes "M::Action") (codes "h")))))

by_types : forms two_spaces (policy entity.Any action.Any in_choice) ≡ Some Any ∷ []
unfolding below leads
by_types = refl

looked_at_behind : forms two_spaces (policy entity.Any action.Any (and in_choice ill_typed)) ≡ None ∷ []
unfolding below leads
looked_at_behind = refl

unlike_actions : forms two_spaces (policy entity.Any (action.InSet (in_space (codes "N::Action") (codes "view") ∷ in_space (codes "M::Action") (codes "g") ∷ [])) (literal (boolean true))) ≡ None ∷ []
unlike_actions = refl

-- one of them, which no environment refuses, whatever the settings
abbrev pub guarded_policy : PolicyTree
guarded_policy = policy (entity.Is (codes "User")) action.Any (and (has principal (codes "age")) adult)

pub guarded_everywhere : (settings : Settings) → faults_of_with settings schema guarded_policy ≡ []
unfolding same_expression
guarded_everywhere settings = refl
