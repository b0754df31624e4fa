-- What has links is declared, as the search over them requires.
use Rattle.std.proofs.Common.{◌≡◌, ℕ, List, [], Option, Some, None, IsSome, unwrap_or, option_map, refl, arith, Contains, Ordering, Equal}
use Rattle.std.proofs.lemmas.Map.Views.{Contains-keys_from_lookup, tells_apart}
use Rattle.std.specs.BTreeMap.{is_at}
use Rattle.std.specs.Map.{keys_of, lookup}
use Rattle.base_reach.specs.Closure.{AreListed}
use Rattle.cedar_value.specs.Order.{text_cmp, uid_cmp}
use Rattle.cedar_value.specs.Private.Same.{text_same, uid_same}
use Rattle.cedar_value.specs.declared.uid.Uid.{Uid}
use Rattle.cedar_schema_spec.specs.SchemaTree.{EntityTypeTree, ActionTree, parents_of_type, parents_of_action}

module _ {K V : Type 0} (R : K → K → Ordering) (exact : (a b : K) → R a b ≡ Equal → a ≡ b) (parents : V → List K) (es : List (K × V)) where
  there : (v : K) (o : Option V) → Contains (unwrap_or (option_map parents o) []) v → IsSome o
  there v None h = absurd (omega (arith, h.1))
  there v (Some x) h = refl

  listed : (u v : K) → Contains (unwrap_or (option_map parents (lookup (is_at (R u)) es)) []) v → Contains (keys_of es) u
  listed u v h = Contains-keys_from_lookup (tells_apart {R = R} exact) u es (there v (lookup (is_at (R u)) es) h)

pub types_listed : (es : List (List ℕ × EntityTypeTree)) → AreListed (parents_of_type es) (keys_of es)
types_listed es = listed text_cmp text_same (λ (e : EntityTypeTree). e.parents) es

pub actions_listed : (es : List (Uid × ActionTree)) → AreListed (parents_of_action es) (keys_of es)
actions_listed es = listed uid_cmp uid_same (λ (a : ActionTree). a.parents) es
