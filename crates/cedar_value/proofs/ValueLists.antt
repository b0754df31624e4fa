-- Lists of values: they are values in any order.
use Rattle.std.proofs.Common.{◌≡◌, ℕ, List, [], ◌∷◌, length, Contains, ⊎_elim, subst, sym, ap, arith}
use Rattle.base_reach.proofs.Listed.{here, there, first_or_later, nowhere}
use Rattle.cedar_value.specs.Datum.{Datum, set, record_of, members_of, fields_of}
use Rattle.cedar_value.specs.Order.{IsAscending, AreKeysAscending}
use Rattle.cedar_value.specs.Private.Lists.{list_of-members_of, pairs_of-fields_of}
use Rattle.cedar_value.specs.Values.{IsValue, AreValues, HoldValues}

each_value : (ds : List Datum) → AreValues (members_of ds) → (d : Datum) → Contains ds d → IsValue d
each_value [] all d m = absurd (nowhere d m)
each_value (e ∷ ds) all d m = ⊎_elim (λ is. subst IsValue is all.0) (λ later. each_value ds all.1 d later) (first_or_later e ds d m)

all_values : (ds : List Datum) → ((d : Datum) → Contains ds d → IsValue d) → AreValues (members_of ds)
all_values [] each = tt
all_values (d ∷ ds) each = (each d (here d ds), all_values ds (λ e m. each e (there d ds e m)))

pub AreValues-among : (ds es : List Datum) → ((d : Datum) → Contains es d → Contains ds d) → AreValues (members_of ds) → AreValues (members_of es)
AreValues-among ds es among all = all_values es (λ d m. each_value ds all d (among d m))

each_held : (ps : List (List ℕ × Datum)) → HoldValues (fields_of ps) → (p : List ℕ × Datum) → Contains ps p → IsValue p.1
each_held [] all p m = absurd (nowhere p m)
each_held (q ∷ ps) all p m = ⊎_elim (λ is. subst IsValue (ap (λ (r : List ℕ × Datum). r.1) is) all.0) (λ later. each_held ps all.1 p later) (first_or_later q ps p m)

all_held : (ps : List (List ℕ × Datum)) → ((p : List ℕ × Datum) → Contains ps p → IsValue p.1) → HoldValues (fields_of ps)
all_held [] each = tt
all_held (p ∷ ps) each = (each p (here p ps), all_held ps (λ q m. each q (there p ps q m)))

pub HoldValues-among : (ps qs : List (List ℕ × Datum)) → ((p : List ℕ × Datum) → Contains qs p → Contains ps p) → HoldValues (fields_of ps) → HoldValues (fields_of qs)
HoldValues-among ps qs among all = all_held qs (λ p m. each_held ps all p (among p m))

pub IsValue-set : (ds : List Datum) → IsAscending ds → AreValues (members_of ds) → IsValue (set (members_of ds))
IsValue-set ds up all = (subst IsAscending (sym (list_of-members_of ds)) up, all)

pub IsValue-record : (ps : List (List ℕ × Datum)) → AreKeysAscending ps → HoldValues (fields_of ps) → IsValue (record_of (fields_of ps))
IsValue-record ps up all = (subst AreKeysAscending (sym (pairs_of-fields_of ps)) up, all)

pub none_of : {A : Type 0} (xs : List A) → length xs ≡ 0 → xs ≡ []
none_of [] e = λ i. []
none_of (x ∷ xs) e = absurd (omega arith)
