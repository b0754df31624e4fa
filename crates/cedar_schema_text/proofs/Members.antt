-- Objects of JSON beside the maps that hold them.
use Rattle.std.proofs.Common.{◌≡◌, ℕ, Bool, true, false, List, [], ◌∷◌, length, Option, Some, None, is_some, option_map, IsTrue, ◌↔◌, refl, sym, ap, ◌∙◌, arith, string_bytes, String, Global, nat_cmp}
use Rattle.std.proofs.lemmas.Bool.{false≢true}
use Rattle.std.specs.BTreeMap.{is_at}
use Rattle.std.specs.Cmp.Lexicographic.{slice_cmp}
use Rattle.std.specs.Map.{lookup}
use Rattle.serde_json.specs.Find.{get_member}
use Rattle.serde_json.specs.View.{view, members_view}
use Rattle.serde_json.specs.declared.value.Value.{Value}
use Rattle.serde_json.proofs.Views.{view-lookup}
use Rattle.cedar_schema_text.specs.Objects.{is_nothing}

some_map : {X Y : Type 0} (go : X → Y) (o : Option X) → is_some (option_map go o) ≡ is_some o
some_map go None = refl
some_map go (Some x) = refl

-- a key is there where the object has it
pub contains : (key : List ℕ) (es : List (String Global × Value)) → is_some (lookup (is_at (λ k. slice_cmp nat_cmp key (string_bytes k))) es) ≡ is_some (get_member key (members_view es))
contains key es = sym (some_map view (lookup (is_at (λ k. slice_cmp nat_cmp key (string_bytes k))) es)) ∙ ap is_some (view-lookup key es)

pub none_is_nothing : (es : List (String Global × Value)) (b : Bool) → (IsTrue b ↔ (length es ≡ 0)) → b ≡ is_nothing (members_view es)
none_is_nothing [] true h = refl
none_is_nothing [] false h = absurd (false≢true (h.1 refl))
none_is_nothing (e ∷ es) true h = absurd (let n = h.0 refl in omega arith)
none_is_nothing (e ∷ es) false h = refl
