-- A tree of changes, in the order of the hashes of their uids, and of the uids where hashes are equal. Each way down is as long as
-- each other.
use Rattle.std.specs.Prelude.{◌≡◌, ℕ, zero, suc, ◌+◌, ◌*◌, ◌/◌, ◌%◌, ◌^◌, ◌≤◌, max, List, [], ◌∷◌, ◌++◌, length, map, Option, Some, None, bit_xor}
use Rattle.std.specs.List.{fold}
use Rattle.std.specs.Ordering.{nat_cmp, ordering_then}
use Rattle.std.specs.declared.cmp.Ordering.{Ordering}
use Rattle.std.specs.declared.cmp.Ordering.TheVariants.{Less, Equal, Greater}
use Rattle.cedar_value.specs.Order.{uid_cmp}
use Rattle.cedar_value.specs.Private.Hashed.{uid_input}
use Rattle.cedar_value.specs.declared.uid.Uid.{Uid}
use Rattle.cedar_store.specs.Private.Changing.{ChangeTree, IsChangeOfUid}
use Rattle.cedar_store.specs.Private.Hashed.{finish, write}
use Rattle.cedar_store.specs.declared.uid_hashing.UidHashing.{UidHashing}

-- a change with the hash of its uid
pub record Keyed : Type 0 where
  pub hash : ℕ
  pub change : ChangeTree

-- a fork has one change between two trees, or two changes between three trees
pub data Branches : Type 0 where
  no_branch : Branches
  two : Branches → Keyed → Branches → Branches
  three : Branches → Keyed → Branches → Keyed → Branches → Branches

-- ---- what is in a tree

-- the changes from left to right, with their hashes
abbrev pub keyed_in : Branches → List Keyed
keyed_in no_branch = []
keyed_in (two l e r) = keyed_in l ++ e ∷ keyed_in r
keyed_in (three l e m f r) = keyed_in l ++ e ∷ (keyed_in m ++ f ∷ keyed_in r)

-- the changes from left to right
abbrev pub changes_in : Branches → List ChangeTree
changes_in t = map (λ e. e.change) (keyed_in t)

-- how many changes there are
abbrev pub size : Branches → ℕ
size t = length (keyed_in t)

-- how many forks the longest way down has
abbrev pub depth : Branches → ℕ
depth no_branch = 0
depth (two l e r) = suc (max (depth l) (depth r))
depth (three l e m f r) = suc (max (depth l) (max (depth m) (depth r)))

-- each way down has n forks
abbrev pub IsEven : ℕ → Branches → Type 0
IsEven n no_branch = n ≡ 0
IsEven zero (two l e r) = ⊥
IsEven (suc n) (two l e r) = IsEven n l × IsEven n r
IsEven zero (three l e m f r) = ⊥
IsEven (suc n) (three l e m f r) = IsEven n l × IsEven n m × IsEven n r

-- ---- the order

-- the order of a hash and a uid beside those of a change
abbrev pub key_cmp : ℕ → Uid → Keyed → Ordering
key_cmp n u e = ordering_then (nat_cmp n e.hash) (uid_cmp u e.change.uid)

-- one of three values, according to an order
abbrev pub by_order : {A : Type 0} → Ordering → A → A → A → A
by_order Less x y z = x
by_order Equal x y z = y
by_order Greater x y z = z

-- each change has P
abbrev pub EachKeyed : (Keyed → Type 0) → List Keyed → Type 0
EachKeyed P [] = Unit {0}
EachKeyed P (e ∷ es) = P e × EachKeyed P es

-- each change is before those after it
abbrev pub AreAscending : List Keyed → Type 0
AreAscending [] = Unit {0}
AreAscending (e ∷ es) = EachKeyed (λ f. key_cmp e.hash e.change.uid f ≡ Less) es × AreAscending es

-- ---- the way down

-- the change on the way down to a hash and a uid
abbrev pub descent : ℕ → Uid → Branches → Option ChangeTree
descent n u no_branch = None
descent n u (two l e r) = by_order (key_cmp n u e) (descent n u l) (Some e.change) (descent n u r)
descent n u (three l e m f r) = by_order (key_cmp n u e) (descent n u l) (Some e.change) (by_order (key_cmp n u f) (descent n u m) (Some f.change) (descent n u r))

-- ---- a change more

-- what a tree becomes by a change more: a tree as deep as before, or two trees as deep as before and a change between them
pub data Grown : Type 0 where
  whole : Branches → Grown
  split : Branches → Keyed → Branches → Grown

-- a fork of two trees whose left one has grown
abbrev pub two_left : Grown → Keyed → Branches → Grown
two_left (whole l) e r = whole (two l e r)
two_left (split a x b) e r = whole (three a x b e r)

abbrev pub two_right : Branches → Keyed → Grown → Grown
two_right l e (whole r) = whole (two l e r)
two_right l e (split a x b) = whole (three l e a x b)

-- a fork of three trees whose left one has grown
abbrev pub three_left : Grown → Keyed → Branches → Keyed → Branches → Grown
three_left (whole l) e m f r = whole (three l e m f r)
three_left (split a x b) e m f r = split (two a x b) e (two m f r)

abbrev pub three_middle : Branches → Keyed → Grown → Keyed → Branches → Grown
three_middle l e (whole m) f r = whole (three l e m f r)
three_middle l e (split a x b) f r = split (two l e a) x (two b f r)

abbrev pub three_right : Branches → Keyed → Branches → Keyed → Grown → Grown
three_right l e m f (whole r) = whole (three l e m f r)
three_right l e m f (split a x b) = split (two l e m) f (two a x b)

-- what a tree becomes by the change d
abbrev pub grow : Keyed → Branches → Grown
grow d no_branch = split no_branch d no_branch
grow d (two l e r) = by_order (key_cmp d.hash d.change.uid e) (two_left (grow d l) e r) (whole (two l d r)) (two_right l e (grow d r))
grow d (three l e m f r) =
    by_order (key_cmp d.hash d.change.uid e) (three_left (grow d l) e m f r) (whole (three l d m f r))
    (by_order (key_cmp d.hash d.change.uid f) (three_middle l e (grow d m) f r) (whole (three l e m d r)) (three_right l e m f (grow d r)))

abbrev pub rooted : Grown → Branches
rooted (whole t) = t
rooted (split l e r) = two l e r

-- the tree with one change more, which takes the place of the one with its uid
abbrev pub put : Keyed → Branches → Branches
put d t = rooted (grow d t)

-- ---- maps

-- the bits of a hash, mixed
unfoldable pub mixed : ℕ → ℕ
mixed n = (bit_xor n (n / 2 ^ 32) * 11400714819323198485) % 2 ^ 64

-- the hash of a uid in whose order changes are kept
abbrev pub hash_of : UidHashing → Uid → ℕ
hash_of h u = mixed (mixed (finish (fold write h.begun (uid_input u))))

-- a change is kept with the hash of its uid, and its entity has that uid
pub record IsKeyed (h : Uid → ℕ) (e : Keyed) : Type 0 where
  pub hashed : e.hash ≡ h e.change.uid
  pub named : IsChangeOfUid e.change

-- the tree is in order, each of its ways down is as long as each other, and so it is no deeper than the logarithm of its size
pub record IsMap (h : UidHashing) (t : Branches) : Type 0 where
  pub ascending : AreAscending (keyed_in t)
  pub keyed : EachKeyed (IsKeyed (hash_of h)) (keyed_in t)
  pub even : IsEven (depth t) t
  pub shallow : 2 ^ depth t ≤ size t + 1
