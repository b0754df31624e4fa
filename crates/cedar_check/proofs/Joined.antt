-- Types of members and of entries, from a place on.
use Rattle.std.proofs.Common.{◌≡◌, Bool, true, false, ℕ, ◌<◌, ◌+◌, List, [], ◌∷◌, Some, None, length, get_or, drop, refl, ap, sym, ◌∙◌}
use Rattle.std.specs.Prelude.{option_and_then}
use Rattle.cedar_schema_types.specs.Types.{TypeTree, Attributes}
use Rattle.cedar_schema_types.specs.Joining.{join, only_if}
use Rattle.cedar_schema_types.specs.Ordered.{with_attribute}
use Rattle.cedar_ast_expressions.specs.Expression.{Expression, expressions_of, entries_of}
use Rattle.cedar_ast_expressions.specs.Keys.{AreDistinct, keys_of, keys_in}
use Rattle.cedar_schema_spec.specs.SchemaTree.{SchemaTree}
use Rattle.cedar_schema_spec.specs.declared.environment.Environment.{Environment}
use Rattle.cedar_check_spec.specs.Capabilities.{Capabilities}
use Rattle.cedar_check_spec.specs.Rows.{Typed}
use Rattle.cedar_check_spec.specs.Private.Checking.{type_of_with, types_onto, types_entries, are_distinct}
use Rattle.cedar_check_spec.proofs.Trees.{test_from_distinct}
use Rattle.cedar_check_operators.proofs.Held.{drop_here}
use Rattle.cedar_check_spec.specs.declared.settings.Settings.{Settings}

module _ (settings : Settings) (s : SchemaTree) (env : Environment) (h : Capabilities) where
  pub member_refused : (t : TypeTree) (es : List Expression) (i : ℕ) (e : Expression) → i < length es → e ≡ get_or es i e → type_of_with settings s env h e ≡ None → types_onto settings s env h t (expressions_of (drop i es)) ≡ None
  member_refused t es i e lt is none =
      ap (λ l. types_onto settings s env h t (expressions_of l)) (drop_here es i e lt is)
      ∙ ap (option_and_then (λ (x : Typed). option_and_then (λ v. types_onto settings s env h v (expressions_of (drop (i + 1) es))) (join t x.ty))) none

  pub member_apart : (t : TypeTree) (es : List Expression) (i : ℕ) (e : Expression) (x : Typed) → i < length es → e ≡ get_or es i e → type_of_with settings s env h e ≡ Some x → join t x.ty ≡ None → types_onto settings s env h t (expressions_of (drop i es)) ≡ None
  member_apart t es i e x lt is typed apart =
      ap (λ l. types_onto settings s env h t (expressions_of l)) (drop_here es i e lt is)
      ∙ ap (option_and_then (λ (x : Typed). option_and_then (λ v. types_onto settings s env h v (expressions_of (drop (i + 1) es))) (join t x.ty))) typed
      ∙ ap (option_and_then (λ v. types_onto settings s env h v (expressions_of (drop (i + 1) es)))) apart

  pub member_joined : (t v : TypeTree) (es : List Expression) (i : ℕ) (e : Expression) (x : Typed) → i < length es → e ≡ get_or es i e → type_of_with settings s env h e ≡ Some x → join t x.ty ≡ Some v
      → types_onto settings s env h v (expressions_of (drop (i + 1) es)) ≡ types_onto settings s env h t (expressions_of (drop i es))
  member_joined t v es i e x lt is typed joined =
      sym (ap (λ l. types_onto settings s env h t (expressions_of l)) (drop_here es i e lt is)
      ∙ ap (option_and_then (λ (x : Typed). option_and_then (λ v. types_onto settings s env h v (expressions_of (drop (i + 1) es))) (join t x.ty))) typed
      ∙ ap (option_and_then (λ v. types_onto settings s env h v (expressions_of (drop (i + 1) es)))) joined)

  pub entry_refused : (at : Attributes) (ps : List (List ℕ × Expression)) (i : ℕ) (p : List ℕ × Expression) → i < length ps → p ≡ get_or ps i p → type_of_with settings s env h p.1 ≡ None → types_entries settings s env h at (entries_of (drop i ps)) ≡ None
  entry_refused at ps i p lt is none =
      ap (λ l. types_entries settings s env h at (entries_of l)) (drop_here ps i p lt is)
      ∙ ap (option_and_then (λ (x : Typed). types_entries settings s env h (with_attribute p.0 true x.ty at) (entries_of (drop (i + 1) ps)))) none

  pub entry_added : (at : Attributes) (ps : List (List ℕ × Expression)) (i : ℕ) (p : List ℕ × Expression) (x : Typed) → i < length ps → p ≡ get_or ps i p → type_of_with settings s env h p.1 ≡ Some x
      → types_entries settings s env h (with_attribute p.0 true x.ty at) (entries_of (drop (i + 1) ps)) ≡ types_entries settings s env h at (entries_of (drop i ps))
  entry_added at ps i p x lt is typed =
      sym (ap (λ l. types_entries settings s env h at (entries_of l)) (drop_here ps i p lt is)
      ∙ ap (option_and_then (λ (x : Typed). types_entries settings s env h (with_attribute p.0 true x.ty at) (entries_of (drop (i + 1) ps)))) typed)

pub nothing : {A : Type 0} (b : Bool) → only_if {A = A} b None ≡ None
nothing true = refl
nothing false = refl

names-entries_of : (ps : List (List ℕ × Expression)) → keys_in (entries_of ps) ≡ keys_of ps
names-entries_of [] = refl
names-entries_of (p ∷ ps) = ap (λ ks. p.0 ∷ ks) (names-entries_of ps)

pub distinct_names : (ps : List (List ℕ × Expression)) → AreDistinct (keys_of ps) → are_distinct (keys_in (entries_of ps)) ≡ true
distinct_names ps d = ap are_distinct (names-entries_of ps) ∙ test_from_distinct (keys_of ps) d
