-- What is ahead of the numbers of an entity's parents is above the entity.
--     ahead_above      the test by near numbers is that of ancestors
--     above_of      the same of the numbers at the place of an entity
--     row_above      a row with what is ahead has what is above
use Rattle.std.proofs.Common.{◌≡◌, ◌⊎◌, inl, inr, ⊎_elim, ℕ, zero, suc, Bool, true, false, ◌||◌, List, [], ◌∷◌, ◌++◌, ◌+◌, ◌<◌, length, take, get_or, Option, Some, None, nat_eq, refl, sym, ap, subst, ◌∙◌, arith, Contains, IsTrue}
use Rattle.std.specs.List.{list_any}
use Rattle.std.proofs.lemmas.List.{take_more}
use Rattle.base_bits.specs.Bits.{has_bit}
use Rattle.base_reach.specs.Closure.{one_link, more_links}
use Rattle.base_reach.proofs.Listed.{any_at, any_found, either_true, first_or_later, here, nowhere, or_left, or_right, there}
use Rattle.base_search.specs.Numbered.{AreNumbersOf, bit_told}
use Rattle.base_search.proofs.Numbering.{number_of}
use Rattle.cedar_value.specs.World.{World, Below, parents_of}
use Rattle.cedar_value.specs.declared.uid.Uid.{Uid}
use Rattle.cedar_store.specs.Entities.{uids_of}
use Rattle.cedar_store.specs.Private.Based.{BaseTree, IsMarked}
use Rattle.cedar_store.specs.Private.Kept.{AreAncestors, AreParentNumbers, AreRows, IsListOf, ahead_told, has_ahead, in_ahead, in_row, is_ahead_of, number_in}
use Rattle.cedar_store.proofs.Linked.{near_numbers}
use Rattle.cedar_store.proofs.Numbered.{number_apart}
use Rattle.cedar_store.proofs.Overlaid.{below_parents}

key_of : (number : Uid → Option ℕ) (us : List Uid) (ns : List ℕ) (n : ℕ) → AreNumbersOf number us ns → Contains ns n → (u : Uid) × Contains us u × (number u ≡ Some n)
key_of number [] [] n h m = absurd (nowhere n m)
key_of number [] (y ∷ ns) n h m = absurd h
key_of number (x ∷ us) [] n h m = absurd (nowhere n m)
key_of number (x ∷ us) (y ∷ ns) n h m = elim (first_or_later y ns n m) [
  | inl same ↦ (x, here x us, h.0 ∙ ap Some same)
  | inr later ↦ (let rest = key_of number us ns n h.1 later in (rest.0, there x us rest.0 rest.1, rest.2))
]

pub equal_numbers : (a b : ℕ) → nat_eq a b ≡ true → a ≡ b
equal_numbers a b h = grind (arith, h)

pub equal_self : (n : ℕ) → nat_eq n n ≡ true
equal_self n = grind arith

pub told_number : (rows : List (List ℕ)) (near : List ℕ) (o : Option ℕ) → ahead_told rows near o ≡ true → (m : ℕ) × (o ≡ Some m) × (has_ahead rows near m ≡ true)
told_number rows near None h = cc
told_number rows near (Some m) h = (m, refl, h)

told_bit : (row : List ℕ) (o : Option ℕ) → bit_told row o ≡ true → (m : ℕ) × (o ≡ Some m) × (has_bit row m ≡ true)
told_bit row None h = cc
told_bit row (Some m) h = (m, refl, h)

module _ (keys : List Uid) (w : World) (rows : List (List ℕ)) (right : AreRows keys w rows) (u : Uid) (near : List ℕ) (are : AreNumbersOf (number_in keys) (parents_of w u) near) where
  -- from a parent's number to a chain
  by_parent : (v : Uid) (m n : ℕ) (p : Uid) → number_in keys v ≡ Some m → Contains (parents_of w u) p → number_in keys p ≡ Some n → (nat_eq n m ≡ true) ⊎ (has_bit (get_or rows n []) m ≡ true) → Below w u v
  by_parent v m n p at link num (inl same) =
      let is : p ≡ v = number_apart keys p v m (num ∙ ap Some (equal_numbers n m same)) at in
      one_link (subst (Contains (parents_of w u)) is link)
  by_parent v m n p at link num (inr bit) = more_links link ((right n p num v).0 (ap (bit_told (get_or rows n [])) at ∙ bit))

  ahead_below : (v : Uid) → IsTrue (in_ahead keys rows near v) → Below w u v
  ahead_below v h =
      let told = told_number rows near (number_in keys v) h in
      let found = any_found (is_ahead_of rows told.0) near told.2 in
      let parent = key_of (number_in keys) (parents_of w u) near found.0 are found.1 in
      by_parent v told.0 found.0 parent.0 told.1 parent.1 parent.2 (either_true (nat_eq found.0 told.0) (has_bit (get_or rows found.0 []) told.0) found.2)

  near_told : (v : Uid) (m n : ℕ) → number_in keys v ≡ Some m → Contains near n → is_ahead_of rows m n ≡ true → IsTrue (in_ahead keys rows near v)
  near_told v m n at there is = ap (ahead_told rows near) at ∙ any_at (is_ahead_of rows m) near n there is

  from_parent : (v p : Uid) (n : ℕ) → Contains near n → number_in keys p ≡ Some n → (p ≡ v) ⊎ Below w p v → IsTrue (in_ahead keys rows near v)
  from_parent v p n there num (inl same) = near_told v n n (ap (number_in keys) (sym same) ∙ num) there (or_left (nat_eq n n) (has_bit (get_or rows n []) n) (equal_self n))
  from_parent v p n there num (inr chain) =
      let told = told_bit (get_or rows n []) (number_in keys v) ((right n p num v).1 chain) in
      near_told v told.0 n told.1 there (or_right (nat_eq n told.0) (has_bit (get_or rows n []) told.0) told.2)

  pub ahead_above : AreAncestors w u (in_ahead keys rows near)
  ahead_above v = (
    λ h. ahead_below v h,
    λ chain.
        (let first = (below_parents w u v).0 chain in
        let at = number_of (number_in keys) (parents_of w u) near first.0 are first.1 in
        from_parent v first.0 at.0 at.1 at.2 first.2),
  )

pub above_of : (keys : List Uid) (w : World) (lists rows held : List (List ℕ)) → AreRows keys w rows → AreParentNumbers keys w lists → held ≡ rows → (u : Uid) (near : List ℕ) → IsListOf (uids_of w) lists u near → AreAncestors w u (in_ahead keys held near)
above_of keys w lists rows held right numbered is u near of = ahead_above keys w held (subst (AreRows keys w) (sym is) right) u near (near_numbers keys w lists numbered u near of)

-- ---- one near number more

or_none : (b : Bool) → (b || false) ≡ (false || b)
or_none true = refl
or_none false = refl

pub neither : (a b : Bool) → a ≡ false → b ≡ false → (a || b) ≡ false
neither true b h k = cc
neither false b h k = k

pub or_first : (a b c : Bool) → (a || (b || c)) ≡ ((a || b) || c)
or_first true b c = refl
or_first false b c = refl

pub any_push : {A : Type 0} (p : A → Bool) (xs : List A) (x : A) → list_any p (xs ++ x ∷ []) ≡ (list_any p xs || p x)
any_push p [] x = or_none (p x)
any_push p (y ∷ xs) x = ap (λ b. p y || b) (any_push p xs x) ∙ or_first (p y) (list_any p xs) (p x)

pub at_index : (near : List ℕ) (i d : ℕ) → i < length near → get_or near i 0 ≡ get_or near i d
at_index [] i d within = absurd (omega arith)
at_index (n ∷ near) zero d within = refl
at_index (n ∷ near) (suc i) d within = at_index near i d (omega arith)

pub ahead_more : (rows : List (List ℕ)) (near : List ℕ) (i n m : ℕ) → i < length near → n ≡ get_or near i n → has_ahead rows (take (i + 1) near) m ≡ (has_ahead rows (take i near) m || is_ahead_of rows m n)
ahead_more rows near i n m within is =
    let more : take (i + 1) near ≡ take i near ++ n ∷ [] = take_more near i n within ∙ ap (λ x. take i near ++ x ∷ []) (sym is) in
    ap (list_any (is_ahead_of rows m)) more ∙ any_push (is_ahead_of rows m) (take i near) n

-- ---- a row with what is ahead

pub in_row-ahead : (keys : List Uid) (rows : List (List ℕ)) (near row : List ℕ) → ((m : ℕ) → has_bit row m ≡ has_ahead rows near m) → (u : Uid) → in_row keys row u ≡ in_ahead keys rows near u
in_row-ahead keys rows near row same u = by (number_in keys u)
  where
    by : (o : Option ℕ) → bit_told row o ≡ ahead_told rows near o
    by None = refl
    by (Some m) = same m

pub row_above : (keys : List Uid) (w : World) (rows : List (List ℕ)) (near row : List ℕ) (u : Uid) → ((m : ℕ) → has_bit row m ≡ has_ahead rows near m) → AreAncestors w u (in_ahead keys rows near) → AreAncestors w u (in_row keys row)
row_above keys w rows near row u same above v =
    let is = in_row-ahead keys rows near row same v in
    (λ t. (above v).0 (sym is ∙ t), λ b. is ∙ (above v).1 b)

-- ---- marks

pub none_ahead_marked : (keys : List Uid) (w : World) (rows : List (List ℕ)) (near marks : List ℕ) (u : Uid) → AreAncestors w u (in_ahead keys rows near) → ((m : ℕ) → IsTrue (has_ahead rows near m) → ¬ IsTrue (has_bit marks m))
    → (x : Uid) → IsTrue (in_row keys marks x) → ¬ Below w u x
none_ahead_marked keys w rows near marks u above none x marked chain =
    let told = told_number rows near (number_in keys x) ((above x).1 chain) in
    none told.0 told.2 (sym (ap (bit_told marks) told.1) ∙ marked)

pub none_marked_at : (b : BaseTree) (rows held : List (List ℕ)) → AreRows b.keys b.world rows → held ≡ rows → (marks : List ℕ) (n : ℕ) → ((m : ℕ) → IsTrue (is_ahead_of held m n) → ¬ IsTrue (has_bit marks m)) → (u : Uid) → number_in b.keys u ≡ Some n → ¬ IsMarked b marks u
none_marked_at b rows held right is marks n none u at (inl there) = none n (or_left (nat_eq n n) (has_bit (get_or held n []) n) (equal_self n)) (sym (ap (bit_told marks) at) ∙ there)
none_marked_at b rows held right is marks n none u at (inr (x, there, chain)) =
    let told = told_bit (get_or rows n []) (number_in b.keys x) ((right n u at x).1 chain) in
    let bit : has_bit (get_or held n []) told.0 ≡ true = ap (λ (rs : List (List ℕ)). has_bit (get_or rs n []) told.0) is ∙ told.2 in
    none told.0 (or_right (nat_eq n told.0) (has_bit (get_or held n []) told.0) bit) (sym (ap (bit_told marks) told.1) ∙ there)

-- a near number that has no mark ahead
pub none_ahead_of : (rows : List (List ℕ)) (marks : List ℕ) (n : ℕ) → has_bit marks n ≡ false → ((m : ℕ) → ¬ (IsTrue (has_bit (get_or rows n []) m) × IsTrue (has_bit marks m))) → (m : ℕ) → IsTrue (is_ahead_of rows m n) → ¬ IsTrue (has_bit marks m)
none_ahead_of rows marks n unmarked none m is there =
    ⊎_elim (λ same. (let here : has_bit marks n ≡ true = ap (has_bit marks) (equal_numbers n m same) ∙ there in cc)) (λ bit. none m (bit, there)) (either_true (nat_eq n m) (has_bit (get_or rows n []) m) is)
