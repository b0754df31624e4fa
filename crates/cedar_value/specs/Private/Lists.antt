-- Members and fields as lists, and back: the result is what they were made of.
use Rattle.std.specs.Prelude.{◌≡◌, ℕ, List, [], ◌∷◌, refl}
use Rattle.std.proofs.Common.{ap}
use Rattle.cedar_value.specs.Datum.{Datum, Members, no_members, member, Fields, no_fields, field, members_of, list_of, fields_of, pairs_of}

pub list_of-members_of : (ds : List Datum) → list_of (members_of ds) ≡ ds
list_of-members_of [] = refl
list_of-members_of (d ∷ ds) = ap (λ r. d ∷ r) (list_of-members_of ds)

pub members_of-list_of : (ms : Members) → members_of (list_of ms) ≡ ms
members_of-list_of no_members = refl
members_of-list_of (member d ms) = ap (member d) (members_of-list_of ms)

pub pairs_of-fields_of : (ps : List (List ℕ × Datum)) → pairs_of (fields_of ps) ≡ ps
pairs_of-fields_of [] = refl
pairs_of-fields_of (p ∷ ps) = ap (λ r. p ∷ r) (pairs_of-fields_of ps)

pub fields_of-pairs_of : (fs : Fields) → fields_of (pairs_of fs) ≡ fs
fields_of-pairs_of no_fields = refl
fields_of-pairs_of (field k d fs) = ap (field k d) (fields_of-pairs_of fs)
