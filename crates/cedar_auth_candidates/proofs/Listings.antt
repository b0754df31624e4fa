-- What a listing says of where its positions are kept.
use Rattle.std.proofs.Common.{◌≡◌, ℕ, Bool, true, false, List, Contains, refl, sym, subst, ◌∙◌}
use Rattle.std.specs.Bool.{OnFalse}
use Rattle.base_bits.specs.Bits.{has_bit}
use Rattle.cedar_value.specs.declared.uid.Uid.{Uid}
use Rattle.cedar_auth_candidates.specs.Index.{positions_under}
use Rattle.cedar_auth_candidates.specs.Private.Kept.{HasBits, KeepsNone, Lists, entries_of}
use Rattle.cedar_auth_candidates.proofs.Entering.{list_is}

-- a position that is kept under a uid has no bit, or is kept where the test says so
pub kept_by_flag : (lists : Lists) (row ks : List ℕ) (b : Bool) → OnFalse b (KeepsNone lists row) → HasBits row ks → (k : ℕ) (u : Uid) → Contains ks k → Contains (positions_under (entries_of lists) u) k → b ≡ true
kept_by_flag lists row ks true none bits k u among m = refl
kept_by_flag lists row ks false none bits k u among m =
    let unset : has_bit row k ≡ false = none u k (subst (λ (ys : List ℕ). Contains ys k) (sym (list_is lists u)) m) in
    let no : true ≡ false = sym (bits k among) ∙ unset in
    absurd (cc no)
