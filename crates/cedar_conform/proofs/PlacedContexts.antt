-- The context type of the environment at a position.
use Rattle.std.proofs.Common.{◌≡◌, ◌<◌, ℕ, List, length, get_or, Contains, sym, subst, ◌∙◌}
use Rattle.std.specs.Prelude.{IsTrue}
use Rattle.std.proofs.lemmas.Option.{slice_get_within, get_or_from_slice_get}
use Rattle.cedar_value.specs.declared.uid.Uid.{Uid}
use Rattle.cedar_schema_types.specs.Types.{is_record}
use Rattle.cedar_schema.specs.Positions.{IsEnvironmentAt, IsEnvironmentOf}
use Rattle.cedar_schema_spec.specs.declared.environment.Environment.{Environment}
use Rattle.cedar_schema_spec.specs.SchemaTree.{SchemaTree, environments_of, HasEnvironment}
use Rattle.cedar_schema_spec.specs.WellFormed.{AreContextsOrdered, IsOrderedRecord}

-- there is an environment at the position
pub placed_within : (environments : List Environment) (u : Uid) (p r : List ℕ) (position : ℕ) → IsEnvironmentAt environments u p r position → position < length environments
placed_within environments u p r position (env, at, of) = slice_get_within environments position env at

of_parts : (u : Uid) (p r : List ℕ) (env : Environment) → IsEnvironmentOf u p r env → env ≡ record { action = u; principal = p; resource = r; context = env.context }
of_parts u p r env of = λ i. record { action = of.action i; principal = of.principal i; resource = of.resource i; context = env.context }

module _ (s : SchemaTree) (u : Uid) (p r : List ℕ) (position : ℕ) (x : Environment) (placed : IsEnvironmentAt (environments_of s.actions) u p r position)
    (is : x ≡ get_or (environments_of s.actions) position x) where
  -- what is read at the position is the environment there
  same_environment : x ≡ placed.0
  same_environment = is ∙ get_or_from_slice_get (environments_of s.actions) position placed.0 x placed.1

  listed : Contains (environments_of s.actions) x
  listed = (position, placed_within (environments_of s.actions) u p r position placed, sym is)

  pub placed_context : HasEnvironment s.actions u p r x.context
  placed_context = subst (λ (e : Environment). Contains (environments_of s.actions) e) (of_parts u p r x (subst (IsEnvironmentOf u p r) (sym same_environment) placed.2)) listed

  pub placed_record : AreContextsOrdered s → IsTrue (is_record x.context)
  placed_record ordered =
      (subst (λ (e : Environment). IsOrderedRecord e.context) (sym is) (ordered position x (placed_within (environments_of s.actions) u p r position placed))).0
