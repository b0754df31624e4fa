-- How the search for the first refused entry of a list goes on.
use Rattle.std.proofs.Common.{◌≡◌, ℕ, suc, ◌+◌, ◌-◌, ◌<◌, ◌≤◌, ⊎_elim, List, Option, Some, None, option_map, option_and_then, Result, Ok, Err, MatchResult, MatchOption, refl, sym, ap, subst, ◌∙◌, arith}
use Rattle.std.specs.Prelude.{IsSome, IfNone}
use Rattle.std.proofs.lemmas.Bool.{cases_lt}
use Rattle.std.proofs.lemmas.Option.{same_Some}
use Rattle.serde_json.specs.Data.{Data, array, Items, no_items, item}
use Rattle.serde_json.specs.Find.{as_array, get_item}
use Rattle.base_json.specs.JsonTree.{json_of}
use Rattle.base_json.specs.declared.tree_fault.TreeFault.{TreeFault}
use Rattle.base_json.specs.declared.tree_fault.TreeFault.TheVariants.{Invalid}
use Rattle.cedar_conform_diagnostics.specs.Refused.{AreAccepted, IsEntryRefusedWith, IsListOf}
use Rattle.cedar_conform_diagnostics.specs.Private.Passing.{AllAreAccepted, IsFirstOfAll, IsPassed, list_of}
use Rattle.cedar_conform_entities.specs.Denotes.{IsAccepted}
use Rattle.cedar_schema_spec.specs.SchemaTree.{SchemaTree}

mapped_same : (o : Option Items) → o ≡ option_map (λ ds. ds) o
mapped_same None = refl
mapped_same (Some ds) = refl

mapped_twice : (f g : Items → Items) (o : Option Items) → option_map f (option_map g o) ≡ option_map (λ ds. f (g ds)) o
mapped_twice f g None = refl
mapped_twice f g (Some ds) = refl

-- ---- positions

no_less : (k : ℕ) → k < 0 → ⊥
no_less k h = omega arith

plus_zero : (k : ℕ) → k + 0 ≡ k
plus_zero k = omega arith

shift : (k n : ℕ) → k + (n + 1) ≡ suc k + n
shift k n = omega arith

back : (k n : ℕ) → n ≤ k → (k - n) + n ≡ k
back k n h = omega arith

last : (k n : ℕ) → k < n + 1 → n ≤ k → n ≡ k
last k n h g = omega arith

before_zero : (n : ℕ) → n ≡ 0 + n
before_zero n = omega arith

nothing : (k : ℕ) → get_item k no_items ≡ None
nothing k = refl

-- ---- what was passed

pub start : (s : SchemaTree) (all : Option Items) → IsPassed s all all 0
start s all = record {
  behind_read = λ ds. ds;
  is_all = mapped_same all;
  places = λ ds k. ap (λ (j : ℕ). get_item j ds) (plus_zero k);
  accepted = λ ds k d h e. absurd (no_less k h);
}

pub passed_as : (s : SchemaTree) (all other rest more : Option Items) (n : ℕ) → all ≡ other → rest ≡ more → IsPassed s all rest n → IsPassed s other more n
passed_as s all other rest more n a r p = subst (λ (o : Option Items). IsPassed s o more n) a (subst (λ (o : Option Items). IsPassed s all o n) r p)

module _ (s : SchemaTree) (all rest : Option Items) (n : ℕ) (p : IsPassed s all rest n) where
  pub none : rest ≡ None → all ≡ None
  none e = p.is_all ∙ ap (option_map p.behind_read) e

  none_behind : (k : ℕ) (d : Data) → n ≤ k → get_item k (p.behind_read no_items) ≡ Some d → ⊥
  none_behind k d h here =
      let there : get_item ((k - n) + n) (p.behind_read no_items) ≡ Some d = subst (λ (j : ℕ). get_item j (p.behind_read no_items) ≡ Some d) (sym (back k n h)) here in
      let clash : Some d ≡ None = sym there ∙ (p.places no_items (k - n) ∙ nothing (k - n)) in cc

  pub end : rest ≡ Some no_items → AllAreAccepted s all
  end e ds is k d here =
      let same : ds ≡ p.behind_read no_items = same_Some ds (p.behind_read no_items) (sym is ∙ (p.is_all ∙ ap (option_map p.behind_read) e)) in
      let there : get_item k (p.behind_read no_items) ≡ Some d = subst (λ (xs : Items). get_item k xs ≡ Some d) same here in
      ⊎_elim (λ (l : k < n). p.accepted no_items k d l there) (λ (r : n ≤ k). absurd (none_behind k d r there)) (cases_lt k n)

  module _ (d : Data) (more : Option Items) (e : rest ≡ option_map (item d) more) where
    pub none_after : more ≡ None → all ≡ None
    none_after m = none (e ∙ ap (option_map (item d)) m)

    here_is : (ds : Items) → get_item n (p.behind_read (item d ds)) ≡ Some d
    here_is ds = ap (λ (j : ℕ). get_item j (p.behind_read (item d ds))) (before_zero n) ∙ p.places (item d ds) 0

    accepted_more : (ds : Items) (k : ℕ) (x : Data) → IsAccepted s d → k < n + 1 → get_item k (p.behind_read (item d ds)) ≡ Some x → IsAccepted s x
    accepted_more ds k x ok h there =
        ⊎_elim (λ (l : k < n). p.accepted (item d ds) k x l there)
        (λ (r : n ≤ k).
        let at : get_item n (p.behind_read (item d ds)) ≡ Some x = subst (λ (j : ℕ). get_item j (p.behind_read (item d ds)) ≡ Some x) (sym (last k n h r)) there in
        subst (IsAccepted s) (same_Some d x (sym (here_is ds) ∙ at)) ok)
        (cases_lt k n)

    pub passed_more : IsAccepted s d → (m : ℕ) → m ≡ n + 1 → IsPassed s all more m
    passed_more ok m is = subst (IsPassed s all more) (sym is) (record {
      behind_read = λ ds. p.behind_read (item d ds);
      is_all = p.is_all ∙ ap (option_map p.behind_read) e ∙ mapped_twice p.behind_read (item d) more;
      places = λ ds k. ap (λ (j : ℕ). get_item j (p.behind_read (item d ds))) (shift k n) ∙ p.places (item d ds) (suc k);
      accepted = λ ds k x h there. accepted_more ds k x ok h there;
    })

  found_of : (d : Data) (more : Option Items) → rest ≡ option_map (item d) more → IsSome more → (told : ℕ) → IsEntryRefusedWith s d told → IsFirstOfAll s all n told
  found_of d None e h told r = cc
  found_of d (Some ds) e h told r =
      (p.behind_read (item d ds), p.is_all ∙ ap (option_map p.behind_read) e, record { entry = d; here = here_is d (Some ds) e ds; refused = r; before = p.accepted (item d ds) })

  -- what is said of a refused entry once the rest was read
  pub told_after : {R : Type 0} (position told : R → ℕ) (d : Data) (more : Option Items) → rest ≡ option_map (item d) more → (entry : R) → position entry ≡ n → IsEntryRefusedWith s d (told entry) → (result : Result (Option R) TreeFault)
      → MatchResult result (λ o. MatchOption o ⊥ (λ r. (position r ≡ position entry) × (told r ≡ told entry) × IsSome more)) (λ x. x ≡ Invalid → more ≡ None)
      → MatchResult result (λ o. MatchOption o (AllAreAccepted s all) (λ r. IsFirstOfAll s all (position r) (told r))) (λ x. x ≡ Invalid → all ≡ None)
  told_after position told d more e entry is refused (Ok None) h = absurd h
  told_after position told d more e entry is refused (Ok (Some r)) h =
      subst (λ (k : ℕ). IsFirstOfAll s all k (told r)) (sym (h.0 ∙ is)) (subst (λ (k : ℕ). IsFirstOfAll s all n k) (sym h.1) (found_of d more e h.2 (told entry) refused))
  told_after position told d more e entry is refused (Err x) h = λ i. none_after d more e (h i)

-- ---- the bytes

listed : (all : Option Items) → option_and_then as_array (option_map array all) ≡ all
listed None = refl
listed (Some ds) = refl

pub list_is : (bytes : List ℕ) (all : Option Items) → json_of bytes ≡ option_map array all → list_of bytes ≡ all
list_is bytes all e = ap (option_and_then as_array) e ∙ listed all

pub none_told : {R : Type 0} (s : SchemaTree) (bytes : List ℕ) (position told : R → ℕ) (o : Option R) → MatchOption o (AllAreAccepted s (list_of bytes)) (λ r. IsFirstOfAll s (list_of bytes) (position r) (told r))
    → IfNone o ((ds : Items) → IsListOf bytes ds → AreAccepted s ds)
none_told s bytes position told None h = λ ds e. h ds (ap (option_and_then as_array) e)
none_told s bytes position told (Some r) h = tt

-- what is said of a list is said of the same list
pub told_same : {R : Type 0} (s : SchemaTree) (position told : R → ℕ) (all other : Option Items) (result : Result (Option R) TreeFault) → other ≡ all
    → MatchResult result (λ o. MatchOption o (AllAreAccepted s all) (λ r. IsFirstOfAll s all (position r) (told r))) (λ x. x ≡ Invalid → all ≡ None)
    → MatchResult result (λ o. MatchOption o (AllAreAccepted s other) (λ r. IsFirstOfAll s other (position r) (told r))) (λ x. x ≡ Invalid → other ≡ None)
told_same {R} s position told all other result e h =
    subst (λ (o : Option Items). MatchResult result (λ f. MatchOption f (AllAreAccepted s o) (λ r. IsFirstOfAll s o (position r) (told r))) (λ x. x ≡ Invalid → o ≡ None)) (sym e) h
