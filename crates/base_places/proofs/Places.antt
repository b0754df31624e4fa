-- Places, one byte after another.
use Rattle.std.proofs.Common.{◌≡◌, ◌<◌, ◌≤◌, ℕ, ◌+◌, Bool, true, false, nat_eq, if◌then◌else◌, List, [], ◌∷◌, ◌++◌, take, length, get_or, arith, refl, ap, ◌∙◌}
use Rattle.std.proofs.lemmas.List.{take_more}
use Rattle.base_places.specs.declared.place.Place.{Place}
use Rattle.base_places.specs.Places.{goes_on, next_place, place_after, place_of}

-- the place after one byte more
after_one : (p : Place) (bs : List ℕ) (b : ℕ) → place_after p (bs ++ b ∷ []) ≡ next_place (place_after p bs) b
unfolding place_after
after_one p [] b = refl
after_one p (c ∷ bs) b = after_one (next_place p c) bs b

pub place_begins : (text : List ℕ) → place_of text 0 ≡ record { line = 0; column = 0 }
unfolding place_after
place_begins text = refl

pub place_more : (text : List ℕ) (i : ℕ) → i < length text → place_of text (i + 1) ≡ next_place (place_of text i) (get_or text i 0)
place_more text i low =
    ap (place_after (record { line = 0; column = 0 })) (take_more text i 0 low) ∙ after_one (record { line = 0; column = 0 }) (take i text) (get_or text i 0)

-- a place is no further than the bytes before it
within_cond : (a b : Bool) (p q r : Place) (n : ℕ) → p.line ≤ n → p.column ≤ n → q.line ≤ n → q.column ≤ n → r.line ≤ n → r.column ≤ n
    → ((if a then p else if b then q else r).line ≤ n) × ((if a then p else if b then q else r).column ≤ n)
within_cond true b p q r n pl pc ql qc rl rc = (pl, pc)
within_cond false true p q r n pl pc ql qc rl rc = (ql, qc)
within_cond false false p q r n pl pc ql qc rl rc = (rl, rc)

pub next_within : (p : Place) (b n : ℕ) → p.line ≤ n → p.column ≤ n → ((next_place p b).line ≤ n + 1) × ((next_place p b).column ≤ n + 1)
next_within p b n line column = within_cond (nat_eq b 10) (goes_on b) _ _ _ (n + 1) (omega arith) (omega arith) (omega arith) (omega arith) (omega arith) (omega arith)
