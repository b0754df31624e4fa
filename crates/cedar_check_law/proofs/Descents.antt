-- What is declared in a schema, and what descends from what, by the tests.
use Rattle.std.proofs.Common.{◌≡◌, ℕ, Bool, true, false, cond, List, [], ◌∷◌, Contains, Some, refl, sym, subst}
use Rattle.std.specs.Bool.{Decides}
use Rattle.std.specs.Option.{option_map}
use Rattle.std.specs.Map.{keys_of, lookup}
use Rattle.std.specs.BTreeMap.{is_at}
use Rattle.std.specs.Ordering.{is_eq}
use Rattle.std.proofs.lemmas.Slice.Eq.{bytes_eq-Decides}
use Rattle.cedar_value.specs.Order.{text_cmp}
use Rattle.cedar_value.specs.Private.Laws.{text_ties}
use Rattle.cedar_value.specs.World.{Below}
use Rattle.cedar_value.specs.declared.uid.Uid.{Uid}
use Rattle.cedar_schema_types.specs.Types.{TypeTree}
use Rattle.cedar_schema_spec.specs.SchemaTree.{SchemaTree, EntityTypeTree, shape_of}
use Rattle.cedar_schema_spec.specs.Descents.{ActionDescends, TypeDescends}
use Rattle.cedar_schema_spec.specs.Declarations.{IsAction, IsActionType, is_action, is_action_type, action_entities, action_below, type_below}
use Rattle.cedar_schema_spec.proofs.DeclaredTests.{actions_decided, action_types_decided, action_descents_decided, type_descents_decided, chains_of_actions}
use Rattle.base_reach.proofs.Listed.{here, there}

pub is_action-Decides : (s : SchemaTree) (u : Uid) → Decides (is_action s u) (IsAction s u)
is_action-Decides = actions_decided

pub is_action_type-Decides : (s : SchemaTree) (n : List ℕ) → Decides (is_action_type s n) (IsActionType s n)
is_action_type-Decides = action_types_decided

pub action_below-Decides : (s : SchemaTree) (u v : Uid) → Decides (action_below s u v) (ActionDescends s u v)
action_below-Decides = action_descents_decided

pub type_below-Decides : (s : SchemaTree) (m n : List ℕ) → Decides (type_below s m n) (TypeDescends s m n)
type_below-Decides = type_descents_decided

pub chain_down : (s : SchemaTree) {u v : Uid} → ActionDescends s u v → Below (action_entities s) u v
chain_down s {u} {v} d = (chains_of_actions s u v).1 d

text_tie : (m n : List ℕ) → Decides (is_eq (text_cmp m n)) (m ≡ n)
text_tie m n = subst (λ b. Decides b (m ≡ n)) (text_ties m n) (bytes_eq-Decides m n)

shape_step : (b : Bool) (n : List ℕ) (e : List ℕ × EntityTypeTree) (es : List (List ℕ × EntityTypeTree)) (t : TypeTree) → is_eq (text_cmp n e.0) ≡ b → option_map (λ x. x.shape) (cond b (Some e.1) (lookup (is_at (text_cmp n)) es)) ≡ Some t → (option_map (λ x. x.shape) (lookup (is_at (text_cmp n)) es) ≡ Some t → Contains (keys_of es) n) → Contains (keys_of (e ∷ es)) n
shape_step true n e es t p h rest = subst (λ k. Contains (e.0 ∷ keys_of es) k) (sym ((text_tie n e.0).0 p)) (here e.0 (keys_of es))
shape_step false n e es t p h rest = there e.0 (keys_of es) n (rest h)

shape_listed : (n : List ℕ) (es : List (List ℕ × EntityTypeTree)) (t : TypeTree) → option_map (λ x. x.shape) (lookup (is_at (text_cmp n)) es) ≡ Some t → Contains (keys_of es) n
shape_listed n [] t h = cc
shape_listed n (e ∷ es) t h = shape_step (is_eq (text_cmp n e.0)) n e es t refl h (shape_listed n es t)

pub shape_declared : (s : SchemaTree) (n : List ℕ) (t : TypeTree) → shape_of s n ≡ Some t → Contains (keys_of s.entities) n
shape_declared s n t h = shape_listed n s.entities t h
