-- What is kept under the uids that were asked for.
use Rattle.std.proofs.Common.{◌≡◌, ℕ, ◌⊎◌, inl, inr, ⊎_elim, Bool, true, false, cond, List, [], ◌∷◌, Contains, Option, Some, arith, refl, subst}
use Rattle.std.specs.Global.{Vec}
use Rattle.std.specs.Map.{lookup}
use Rattle.std.specs.Option.{option_map, unwrap_or}
use Rattle.cedar_value.specs.Datum.{same_uid}
use Rattle.cedar_value.specs.Private.Equality.{same_uid-Decides}
use Rattle.cedar_value.specs.World.{World, Below}
use Rattle.cedar_value.specs.declared.uid.Uid.{Uid}
use Rattle.base_bits.specs.Bits.{has_bit}
use Rattle.cedar_auth_candidates.specs.Private.Kept.{Holds, LacksBits}

abbrev items_in : Option (Vec ℕ) → List ℕ
items_in found = unwrap_or (option_map (λ v. v.items) found) []

-- the positions that entries keep under a uid
abbrev pub list_in : List (Uid × Vec ℕ) → Uid → List ℕ
list_in es u = items_in (lookup (same_uid u) es)

-- what is kept under the uids above e is among ks already, or kept by the entries that are left
abbrev pub HoldsOrLeft : World → Uid → List (Uid × Vec ℕ) → List (Uid × Vec ℕ) → List ℕ → Type 0
HoldsOrLeft w e all left ks = (u : Uid) → Below w e u → (k : ℕ) → Contains (list_in all u) k → Contains ks k ⊎ Contains (list_in left u) k

-- one entry further: its list was added, or e is not below its uid
pub asked_more : (w : World) (e : Uid) (all left : List (Uid × Vec ℕ)) (x : Uid) (v : Vec ℕ) (old new : List ℕ)
    → Holds old new → (Below w e x → Holds v.items new) → HoldsOrLeft w e all ((x, v) ∷ left) old → HoldsOrLeft w e all left new
asked_more w e all left x v old new kept added before u below k m = ⊎_elim (λ h. inl (kept k h)) (λ h. at (same_uid u x) refl h) (before u below k m)
  where
    at : (b : Bool) → same_uid u x ≡ b → Contains (items_in (cond (same_uid u x) (Some v) (lookup (same_uid u) left))) k → Contains new k ⊎ Contains (list_in left u) k
    at true same h =
        let is : u ≡ x = (same_uid-Decides u x).0 same in
        inl (added (subst (λ (y : Uid). Below w e y) is below) k (subst (λ (b : Bool). Contains (items_in (cond b (Some v) (lookup (same_uid u) left))) k) same h))
    at false other h = inr (subst (λ (b : Bool). Contains (items_in (cond b (Some v) (lookup (same_uid u) left))) k) other h)

-- no entry is left
pub asked_all : (w : World) (e : Uid) (all : List (Uid × Vec ℕ)) (ks : List ℕ) → HoldsOrLeft w e all [] ks → (u : Uid) → Below w e u → Holds (list_in all u) ks
asked_all w e all ks holds u below k m = ⊎_elim (λ h. h) nothing (holds u below k m)
  where
    nothing : Contains [] k → Contains ks k
    nothing (i, low, d) = absurd (omega arith)

-- ---- bits

-- what is kept under a uid has no bit, or is kept by the entries that are left
abbrev pub LacksOrLeft : List ℕ → List (Uid × Vec ℕ) → List (Uid × Vec ℕ) → Type 0
LacksOrLeft row all left = (u : Uid) (k : ℕ) → Contains (list_in all u) k → (has_bit row k ≡ false) ⊎ Contains (list_in left u) k

-- one entry further, whose positions have no bit
pub lacks_more : (row : List ℕ) (all left : List (Uid × Vec ℕ)) (x : Uid) (v : Vec ℕ) → LacksBits row v.items → LacksOrLeft row all ((x, v) ∷ left) → LacksOrLeft row all left
lacks_more row all left x v lacks before u k m = ⊎_elim (λ h. inl h) (λ h. at (same_uid u x) refl h) (before u k m)
  where
    at : (b : Bool) → same_uid u x ≡ b → Contains (items_in (cond (same_uid u x) (Some v) (lookup (same_uid u) left))) k → (has_bit row k ≡ false) ⊎ Contains (list_in left u) k
    at true same h = inl (lacks k (subst (λ (b : Bool). Contains (items_in (cond b (Some v) (lookup (same_uid u) left))) k) same h))
    at false other h = inr (subst (λ (b : Bool). Contains (items_in (cond b (Some v) (lookup (same_uid u) left))) k) other h)

pub lacks_all : (row : List ℕ) (all : List (Uid × Vec ℕ)) → LacksOrLeft row all [] → (u : Uid) → LacksBits row (list_in all u)
lacks_all row all holds u k m = ⊎_elim (λ h. h) nothing (holds u k m)
  where
    nothing : Contains [] k → has_bit row k ≡ false
    nothing (i, low, d) = absurd (omega arith)
