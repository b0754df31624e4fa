-- Action types descend where some of their actions do.
use Rattle.std.proofs.Common.{◌≡◌, ◌↔◌, ◌⊎◌, inl, inr, ℕ, Bool, true, false, ◌||◌, ◌&&◌, cond, List, [], ◌∷◌, All, IsTrue, Option, Some, None, unwrap_or, refl, sym, ap, subst, ◌∙◌, bytes_eq}
use Rattle.std.specs.BTreeMap.{BTreeMap, get, is_at, Updates, UpdatesBy}
use Rattle.std.specs.List.{list_any}
use Rattle.std.specs.Map.{lookup}
use Rattle.std.specs.Option.{option_map}
use Rattle.std.specs.Ordering.{is_eq}
use Rattle.std.proofs.lemmas.Cmp.{nat_list_cmp_total, tied_itself}
use Rattle.std.proofs.lemmas.List.Elements.{All-contains}
use Rattle.std.proofs.lemmas.List.Folds.{Any-from_list_any}
use Rattle.std.proofs.lemmas.Option.{same_Some}
use Rattle.std.proofs.lemmas.Slice.Eq.{bytes_eq-Decides}
use Rattle.base_bits.specs.Bits.{has_bit}
use Rattle.base_reach.proofs.Listed.{is_false}
use Rattle.base_reach.specs.Closure.{LeadsTo}
use Rattle.base_search.specs.Numbered.{bit_told}
use Rattle.base_search.proofs.Finding.{no_bit}
use Rattle.cedar_value.specs.Order.{text_cmp, uid_cmp}
use Rattle.cedar_value.specs.Private.Same.{text_same, uid_same}
use Rattle.cedar_value.specs.declared.uid.Uid.{Uid}
use Rattle.cedar_schema.specs.declared.schema.descents.Descents.{Descents}
use Rattle.cedar_schema.specs.Private.Kept.{AreRows, AreTypeRows, has_number, has_row, in_row, type_bit}
use Rattle.cedar_schema.proofs.Numbered.{equal_from}

pub and_first : (b c : Bool) → (b && c) ≡ true → b ≡ true
and_first true c h = refl
and_first false c h = cc

pub and_second : (b c : Bool) → (b && c) ≡ true → c ≡ true
and_second true c h = h
and_second false c h = cc

pub and_both : (b c : Bool) → b ≡ true → c ≡ true → (b && c) ≡ true
and_both true c h g = g
and_both false c h g = cc

or_left : (a b : Bool) → a ≡ true → (a || b) ≡ true
or_left true b h = refl
or_left false b h = cc

or_right : (a b : Bool) → b ≡ true → (a || b) ≡ true
or_right true b h = refl
or_right false b h = h

or_cases : (a b : Bool) → (a || b) ≡ true → (a ≡ true) ⊎ (b ≡ true)
or_cases true b h = inl refl
or_cases false b h = inr h

pub either : (a b : Bool) (P Q : Type 0) → IsTrue a ↔ P → IsTrue b ↔ Q → IsTrue (a || b) ↔ (P ⊎ Q)
either a b P Q p q = (λ h. elim (or_cases a b h) [ inl x ↦ inl (p.0 x) | inr y ↦ inr (q.0 y) ], λ s. elim s [ inl x ↦ or_left a b (p.1 x) | inr y ↦ or_right a b (q.1 y) ])

-- ---- the rows of types are joined one by one

bit_of : (o : Option (List ℕ)) (n : ℕ) → has_bit (unwrap_or o []) n ≡ unwrap_or (option_map (λ row. has_bit row n) o) false
bit_of None n = no_bit n
bit_of (Some row) n = refl

none_else : (a c : Bool) → a ≡ (a || (false && c))
none_else true c = refl
none_else false c = refl

pub type_joined : (old mid new : BTreeMap (List ℕ) (List ℕ)) (ty row joined : List ℕ) → UpdatesBy text_cmp (text_cmp ty) old mid None → Updates text_cmp mid new ty (Some joined)
    → ((n : ℕ) → has_bit joined n ≡ (has_bit (unwrap_or (get text_cmp old ty) []) n || has_bit row n)) → (name : List ℕ) (n : ℕ) → type_bit new name n ≡ (type_bit old name n || (bytes_eq ty name && has_bit row n))
type_joined old mid new ty row joined gone put bits name n = at (is_at (text_cmp ty) name) refl
  where
    at : (b : Bool) → is_at (text_cmp ty) name ≡ b → type_bit new name n ≡ (type_bit old name n || (bytes_eq ty name && has_bit row n))
    at true e =
        let same : ty ≡ name = text_same ty name (equal_from (text_cmp ty name) e) in
        let read : get text_cmp new name ≡ Some joined = put.0 name ∙ ap (λ b. cond b (Some joined) (get text_cmp mid name)) e in
        let one : true ≡ bytes_eq ty name = sym ((bytes_eq-Decides ty name).1 same) in
        ap (λ (o : Option (List ℕ)). unwrap_or (option_map (λ r. has_bit r n) o) false) read ∙ bits n ∙ ap (λ b. b || has_bit row n) (bit_of (get text_cmp old ty) n) ∙ ap (λ x. type_bit old x n || has_bit row n) same
        ∙ ap (λ b. type_bit old name n || (b && has_bit row n)) one
    at false e =
        let none : get text_cmp mid name ≡ get text_cmp old name = gone.0 name ∙ ap (λ b. cond b None (get text_cmp old name)) e in
        let read : get text_cmp new name ≡ get text_cmp old name = put.0 name ∙ ap (λ b. cond b (Some joined) (get text_cmp mid name)) e ∙ none in
        let tied : (ty ≡ name) → is_at (text_cmp ty) name ≡ true = λ same. subst (λ x. is_at (text_cmp ty) x ≡ true) same (ap is_eq (tied_itself nat_list_cmp_total ty)) in
        let other : false ≡ bytes_eq ty name = sym (is_false (bytes_eq ty name) (λ t. let hit = tied ((bytes_eq-Decides ty name).0 t) in let no : true ≡ false = sym hit ∙ e in cc)) in
        ap (λ (o : Option (List ℕ)). unwrap_or (option_map (λ r. has_bit r n) o) false) read ∙ none_else (type_bit old name n) (has_bit row n) ∙ ap (λ b. type_bit old name n || (b && has_bit row n)) other

-- whether the row is of an action of the type, and has the bit
abbrev pub has_typed : List ℕ → ℕ → Uid × List ℕ → Bool
has_typed ty n e = bytes_eq (e.0).ty ty && has_bit e.1 n

-- what the rows of the types have, and those that are left are to have, is what all have
abbrev pub AreJoining : BTreeMap (List ℕ) (List ℕ) → List (Uid × List ℕ) → List (Uid × List ℕ) → Type 0
AreJoining types left all = (ty : List ℕ) (n : ℕ) → (type_bit types ty n || list_any (has_typed ty n) left) ≡ list_any (has_typed ty n) all

pub joining_first : (types : BTreeMap (List ℕ) (List ℕ)) (left all : List (Uid × List ℕ)) → types.entries ≡ [] → left ≡ all → AreJoining types left all
joining_first types left all empty is ty n =
    ap (λ (es : List (List ℕ × List ℕ)). unwrap_or (option_map (λ r. has_bit r n) (lookup (is_at (text_cmp ty)) es)) false || list_any (has_typed ty n) left) empty ∙ ap (list_any (has_typed ty n)) is

or_apart : (a b c : Bool) → ((a || b) || c) ≡ (a || (b || c))
or_apart true b c = refl
or_apart false b c = refl

pub joining_more : (old new : BTreeMap (List ℕ) (List ℕ)) (before left all : List (Uid × List ℕ)) (u : Uid) (row : List ℕ) → before ≡ (u, row) ∷ left
    → ((ty : List ℕ) (n : ℕ) → type_bit new ty n ≡ (type_bit old ty n || (bytes_eq u.ty ty && has_bit row n))) → AreJoining old before all → AreJoining new left all
joining_more old new before left all u row is more joining ty n =
    ap (λ b. b || list_any (has_typed ty n) left) (more ty n) ∙ or_apart (type_bit old ty n) (bytes_eq u.ty ty && has_bit row n) (list_any (has_typed ty n) left)
    ∙ ap (λ (es : List (Uid × List ℕ)). type_bit old ty n || list_any (has_typed ty n) es) (sym is) ∙ joining ty n

or_false : (a : Bool) → a ≡ (a || false)
or_false true = refl
or_false false = refl

-- what is looked up passes the test of some entry
looked_up : {B : Type 0} (f : Uid × B → Bool) (es : List (Uid × B)) (u : Uid) (x : B) → f (u, x) ≡ true → lookup (is_at (uid_cmp u)) es ≡ Some x → list_any f es ≡ true
looked_up f [] u x h is = cc
looked_up {B} f (e ∷ es) u x h is = at (is_at (uid_cmp u) e.0) refl (looked_up f es u x h) is
  where
    at : (b : Bool) → is_at (uid_cmp u) e.0 ≡ b → (lookup (is_at (uid_cmp u)) es ≡ Some x → list_any f es ≡ true) → cond b (Some e.1) (lookup (is_at (uid_cmp u)) es) ≡ Some x → (f e || list_any f es) ≡ true
    at true t rest is =
        let same : u ≡ e.0 = uid_same u e.0 (equal_from (uid_cmp u e.0) t) in
        let held : x ≡ e.1 = sym (same_Some _ _ is) in
        or_left (f e) (list_any f es) (subst (λ (y : B). f (e.0, y) ≡ true) held (subst (λ (v : Uid). f (v, x) ≡ true) same h))
    at false t rest is = or_right (f e) (list_any f es) (rest is)

pub joining_all : (types : BTreeMap (List ℕ) (List ℕ)) (rows : BTreeMap Uid (List ℕ)) (left : List (Uid × List ℕ)) → left ≡ [] → All (λ e. get uid_cmp rows e.0 ≡ Some e.1) rows.entries → AreJoining types left rows.entries → AreTypeRows rows types
joining_all types rows left none found joining ty n = (
  λ h. (let some = Any-from_list_any (has_typed ty n) rows.entries (sym all ∙ h) in
      let e = some.1 in
      let at : get uid_cmp rows e.0 ≡ Some e.1 = All-contains (λ x. get uid_cmp rows x.0 ≡ Some x.1) rows.entries e found (some.0, some.2, some.3) in
      (e.0, e.1, (bytes_eq-Decides (e.0).ty ty).0 (and_first (bytes_eq (e.0).ty ty) _ some.4), at, and_second (bytes_eq (e.0).ty ty) _ some.4)),
  λ a. all ∙ looked_up (has_typed ty n) rows.entries a.0 a.1 (and_both (bytes_eq (a.0).ty ty) _ ((bytes_eq-Decides (a.0).ty ty).1 a.2) a.4) a.3,
)
  where
    all : type_bit types ty n ≡ list_any (has_typed ty n) rows.entries
    all = or_false (type_bit types ty n) ∙ ap (λ (es : List (Uid × List ℕ)). type_bit types ty n || list_any (has_typed ty n) es) (sym none) ∙ joining ty n

-- ---- the test of two types

module _ (types : BTreeMap (List ℕ) (List ℕ)) (d : Descents Uid) (up : Uid → List Uid) (low high : List ℕ) where
  abbrev SomeDescends : Type 0
  SomeDescends = (u : Uid) × (v : Uid) × (u.ty ≡ low) × (v.ty ≡ high) × LeadsTo up u v

  sound : AreRows uid_cmp up d → AreTypeRows d.rows types → All (λ e. get uid_cmp d.numbers e.0 ≡ Some e.1) d.numbers.entries → list_any (has_number types low high) d.numbers.entries ≡ true → SomeDescends
  sound are typed found h =
      let some = Any-from_list_any (has_number types low high) d.numbers.entries h in
      let e = some.1 in
      let at : get uid_cmp d.numbers e.0 ≡ Some e.1 = All-contains (λ x. get uid_cmp d.numbers x.0 ≡ Some x.1) d.numbers.entries e found (some.0, some.2, some.3) in
      let of = (typed low e.1).0 (and_second (bytes_eq (e.0).ty high) _ some.4) in
      let row : has_row uid_cmp d of.0 e.0 ≡ true =
      ap (λ (o : Option (List ℕ)). unwrap_or (option_map (λ r. in_row uid_cmp d.numbers r e.0) o) false) of.3 ∙ ap (bit_told of.1) at ∙ of.4 in
      (of.0, e.0, of.2, (bytes_eq-Decides (e.0).ty high).0 (and_first (bytes_eq (e.0).ty high) _ some.4), (are of.0 e.0).0 row)

  split : AreTypeRows d.rows types → (u v : Uid) → u.ty ≡ low → v.ty ≡ high → (o : Option (List ℕ)) (m : Option ℕ) → get uid_cmp d.rows u ≡ o → get uid_cmp d.numbers v ≡ m → unwrap_or (option_map (λ r. bit_told r m) o) false ≡ true
      → list_any (has_number types low high) d.numbers.entries ≡ true
  split typed u v p q (Some row) (Some n) at there h =
      looked_up (has_number types low high) d.numbers.entries v n (and_both (bytes_eq v.ty high) _ ((bytes_eq-Decides v.ty high).1 q) ((typed low n).1 (u, row, p, at, h))) there
  split typed u v p q (Some row) None at there h = cc
  split typed u v p q None m at there h = cc

  pub types_rows : (r : Bool) → AreRows uid_cmp up d → AreTypeRows d.rows types → All (λ e. get uid_cmp d.numbers e.0 ≡ Some e.1) d.numbers.entries → r ≡ list_any (has_number types low high) d.numbers.entries
      → IsTrue r ↔ ((u : Uid) × (v : Uid) × (u.ty ≡ low) × (v.ty ≡ high) × LeadsTo up u v)
  types_rows r are typed found is = (
    λ h. sound are typed found (sym is ∙ h),
    λ a. is ∙ split typed a.0 a.1 a.2 a.3 (get uid_cmp d.rows a.0) (get uid_cmp d.numbers a.1) refl refl ((are a.0 a.1).1 a.4),
  )
