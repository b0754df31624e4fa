-- What is kept stays kept, and what is entered is kept.
use Rattle.std.proofs.Common.{◌≡◌, ℕ, zero, suc, ◌+◌, ◌<◌, ⊎_elim, Bool, true, false, cond, List, [], ◌∷◌, map, length, Contains, Option, Some, None, arith, refl, sym, ap, subst, ◌∙◌}
use Rattle.indexmap.specs.IndexMap.{UpdatesBy, get}
use Rattle.std.specs.Global.{Vec}
use Rattle.std.specs.List.{slice_get}
use Rattle.std.specs.Map.{lookup}
use Rattle.std.specs.Option.{option_map, unwrap_or}
use Rattle.cedar_value.specs.Datum.{same_uid}
use Rattle.cedar_value.specs.Private.Equality.{same_uid-Decides}
use Rattle.cedar_value.specs.declared.uid.Uid.{Uid}
use Rattle.cedar_ast.specs.PolicyTree.{PolicyTree}
use Rattle.cedar_auth_candidates.specs.Index.{IsIndexOf, IsKept, positions_under}
use Rattle.cedar_auth_candidates.specs.Private.Kept.{AreEntered, Holds, IsEntered, IsKeptAt, KeepsAll, KeepsTables, Lists, entries_of, list_at, tree_of}
use Rattle.cedar_ast.specs.Scope.{entity_in}
use Rattle.cedar_auth_candidates.specs.declared.tables.Tables.{Tables}
use Rattle.cedar_auth_candidates.proofs.Gathering.{less_or_same}

abbrev items_in : Option (Vec ℕ) → List ℕ
items_in found = unwrap_or (option_map (λ v. v.items) found) []

-- one list takes the place of that under a uid, and has all that this had
pub kept_by : (old new : Lists) (n : Uid) (v : Vec ℕ) → UpdatesBy same_uid (same_uid n) old new (Some v) → Holds (list_at old n) v.items → KeepsAll old new
kept_by old new n v updates holds u k m = at (same_uid n u) refl
  where
    at : (b : Bool) → same_uid n u ≡ b → Contains (list_at new u) k
    at true e =
        let same : n ≡ u = (same_uid-Decides n u).0 e in
        let found : get same_uid new u ≡ Some v = updates.0 u ∙ ap (λ (b : Bool). cond b (Some v) (get same_uid old u)) e in
        subst (λ (o : Option (Vec ℕ)). Contains (items_in o) k) (sym found) (holds k (subst (λ (x : Uid). Contains (list_at old x) k) (sym same) m))
    at false e =
        let found : get same_uid new u ≡ get same_uid old u = updates.0 u ∙ ap (λ (b : Bool). cond b (Some v) (get same_uid old u)) e in
        subst (λ (o : Option (Vec ℕ)). Contains (items_in o) k) (sym found) m

-- a uid that has no list has no position
pub holds_none : (old : Lists) (n : Uid) (ks : List ℕ) → get same_uid old n ≡ None → Holds (list_at old n) ks
holds_none old n ks none k m = nothing (subst (λ (o : Option (Vec ℕ)). Contains (items_in o) k) none m)
  where
    nothing : Contains [] k → Contains ks k
    nothing (i, low, e) = absurd (omega arith)

-- a list that is found is that of its uid
pub holds_found : (old : Lists) (n : Uid) (v : Vec ℕ) (ks : List ℕ) → Some v ≡ get same_uid old n → Holds v.items ks → Holds (list_at old n) ks
holds_found old n v ks found holds k m = holds k (subst (λ (o : Option (Vec ℕ)). Contains (items_in o) k) (sym found) m)

-- ---- the tables

still_kept : (old new : Tables) (a b : Option Uid) (k : ℕ) → KeepsTables old new → IsKeptAt old a b k → IsKeptAt new a b k
still_kept old new (Some u) b k keeps m = keeps.principals u k m
still_kept old new None (Some u) k keeps m = keeps.resources u k m
still_kept old new None None k keeps m = keeps.unnamed k m

-- one policy more
pub entered_more : (ps : List PolicyTree) (old new : Tables) (i : ℕ) (p : PolicyTree) → slice_get ps i ≡ Some p → KeepsTables old new → IsEntered new p.scope i
    → AreEntered ps old i → AreEntered ps new (i + 1)
entered_more ps old new i p at keeps entered before k x low is = ⊎_elim
    (λ (h : k < i). still_kept old new (entity_in x.scope.principal) (entity_in x.scope.resource) k keeps (before k x h is))
    (λ (e : k ≡ i).
    let both : Some p ≡ Some x = sym at ∙ ap (λ (j : ℕ). slice_get ps j) (sym e) ∙ is in
    let same : p ≡ x = cc both in
    subst (λ (j : ℕ). IsEntered new x.scope j) (sym e) (subst (λ (y : PolicyTree). IsEntered new y.scope i) same entered))
    (less_or_same k i low)

within : (ps : List PolicyTree) (i : ℕ) (p : PolicyTree) → slice_get ps i ≡ Some p → i < length ps
within [] i p e = cc
within (x ∷ xs) zero p e = omega arith
within (x ∷ xs) (suc i) p e = omega (arith, within xs i p e)

-- ---- the same as contracts see it

under_is : (es : List (Uid × Vec ℕ)) (u : Uid) → items_in (lookup (same_uid u) es) ≡ positions_under (map (λ e. (e.0, e.1.items)) es) u
under_is [] u = refl
under_is (x ∷ xs) u = at (same_uid u x.0) (under_is xs u)
  where
    at : (b : Bool) → items_in (lookup (same_uid u) xs) ≡ positions_under (map (λ e. (e.0, e.1.items)) xs) u
        → items_in (cond b (Some x.1) (lookup (same_uid u) xs)) ≡ unwrap_or (cond b (Some (x.1).items) (lookup (same_uid u) (map (λ e. (e.0, e.1.items)) xs))) []
    at true e = refl
    at false e = e

pub list_is : (lists : Lists) (u : Uid) → list_at lists u ≡ positions_under (entries_of lists) u
list_is lists u = under_is lists.entries u

tree_kept : (tables : Tables) (a b : Option Uid) (k : ℕ) → IsKeptAt tables a b k → IsKept (tree_of tables) a b k
tree_kept tables (Some u) b k m = subst (λ (ks : List ℕ). Contains ks k) (list_is tables.principals u) m
tree_kept tables None (Some u) k m = subst (λ (ks : List ℕ). Contains ks k) (list_is tables.resources u) m
tree_kept tables None None k m = m

pub index_of : (ps : List PolicyTree) (tables : Tables) → AreEntered ps tables (length ps) → IsIndexOf ps (tree_of tables)
index_of ps tables all k p is = tree_kept tables (entity_in p.scope.principal) (entity_in p.scope.resource) k (all k p (within ps k p is) is)
