-- Members of a set that are compared with the uids of near numbers.
use Rattle.std.proofs.Common.{◌≡◌, ℕ, ◌+◌, ◌<◌, Bool, true, false, ◌||◌, List, [], ◌∷◌, ◌++◌, length, take, get_or, Option, Some, None, option_map, unwrap_or, ⊎_elim, refl, sym, ap, ◌∙◌}
use Rattle.std.specs.List.{list_any}
use Rattle.std.proofs.lemmas.List.{take_more}
use Rattle.base_reach.proofs.Listed.{either_true, or_left, or_right}
use Rattle.cedar_value.specs.Datum.{Datum, boolean, long, text, uid, set, record_of, extension, same_uid}
use Rattle.cedar_value.specs.declared.uid.Uid.{Uid}
use Rattle.cedar_store.specs.Private.Kept.{has_datum, is_number_of}
use Rattle.cedar_store.proofs.AboveNear.{any_push, neither}

more_datum : (p q : Uid → Bool) → ((u : Uid) → p u ≡ true → q u ≡ true) → (d : Datum) → has_datum p d ≡ true → has_datum q d ≡ true
more_datum p q follows (uid v) h = follows v h
more_datum p q follows (boolean b) h = h
more_datum p q follows (long n) h = h
more_datum p q follows (text t) h = h
more_datum p q follows (set ms) h = h
more_datum p q follows (record_of fs) h = h
more_datum p q follows (extension e) h = h

-- a member that passes one test passes each that follows
pub more_members : (p q : Uid → Bool) → ((u : Uid) → p u ≡ true → q u ≡ true) → (ds : List Datum) → list_any (has_datum p) ds ≡ true → list_any (has_datum q) ds ≡ true
more_members p q follows [] h = h
more_members p q follows (d ∷ ds) h =
    ⊎_elim
    (λ here. or_left (has_datum q d) (list_any (has_datum q) ds) (more_datum p q follows d here))
    (λ later. or_right (has_datum q d) (list_any (has_datum q) ds) (more_members p q follows ds later))
    (either_true (has_datum p d) (list_any (has_datum p) ds) h)

both_false : (a b : Bool) → (a || b) ≡ false → (a ≡ false) × (b ≡ false)
both_false true b h = absurd (cc)
both_false false b h = (refl, h)

no_datum : (p q : Uid → Bool) → ((u : Uid) → p u ≡ false → q u ≡ false) → (d : Datum) → has_datum p d ≡ false → has_datum q d ≡ false
no_datum p q follows (uid v) h = follows v h
no_datum p q follows (boolean b) h = h
no_datum p q follows (long n) h = h
no_datum p q follows (text t) h = h
no_datum p q follows (set ms) h = h
no_datum p q follows (record_of fs) h = h
no_datum p q follows (extension e) h = h

-- where no member passes one test, none passes another that fails where it does
pub no_members : (p q : Uid → Bool) → ((u : Uid) → p u ≡ false → q u ≡ false) → (ds : List Datum) → list_any (has_datum p) ds ≡ false → list_any (has_datum q) ds ≡ false
no_members p q follows [] h = h
no_members p q follows (d ∷ ds) h =
    let both = both_false (has_datum p d) (list_any (has_datum p) ds) h in
    neither (has_datum q d) (list_any (has_datum q) ds) (no_datum p q follows d both.0) (no_members p q follows ds both.1)

neither_datum : (p q : Uid → Bool) (d : Datum) → has_datum p d ≡ false → has_datum q d ≡ false → has_datum (λ u. p u || q u) d ≡ false
neither_datum p q (uid v) h k = neither (p v) (q v) h k
neither_datum p q (boolean b) h k = h
neither_datum p q (long n) h k = h
neither_datum p q (text t) h k = h
neither_datum p q (set ms) h k = h
neither_datum p q (record_of fs) h k = h
neither_datum p q (extension e) h k = h

neither_member : (p q : Uid → Bool) (ds : List Datum) → list_any (has_datum p) ds ≡ false → list_any (has_datum q) ds ≡ false → list_any (has_datum (λ u. p u || q u)) ds ≡ false
neither_member p q [] h k = h
neither_member p q (d ∷ ds) h k =
    let first = both_false (has_datum p d) (list_any (has_datum p) ds) h in
    let second = both_false (has_datum q d) (list_any (has_datum q) ds) k in
    neither (has_datum (λ u. p u || q u) d) (list_any (has_datum (λ u. p u || q u)) ds) (neither_datum p q d first.0 second.0) (neither_member p q ds first.1 second.1)

never : (d : Datum) → has_datum (λ u. false) d ≡ false
never (uid v) = refl
never (boolean b) = refl
never (long n) = refl
never (text t) = refl
never (set ms) = refl
never (record_of fs) = refl
never (extension e) = refl

-- no member passes the test that nothing passes
pub never_any : (ds : List Datum) → list_any (has_datum (λ u. false)) ds ≡ false
never_any [] = refl
never_any (d ∷ ds) = neither (has_datum (λ u. false) d) (list_any (has_datum (λ u. false)) ds) (never d) (never_any ds)

-- ---- the uid at a place

abbrev is_in : Option Uid → Uid → Bool
is_in o u = unwrap_or (option_map (same_uid u) o) false

pub member_nowhere : (o : Option Uid) (ds : List Datum) → o ≡ None → list_any (has_datum (is_in o)) ds ≡ false
member_nowhere o ds is = ap (λ (o : Option Uid). list_any (has_datum (is_in o)) ds) is ∙ never_any ds

pub member_there : (o : Option Uid) (v : Uid) (ds : List Datum) → o ≡ Some v → list_any (has_datum (is_in o)) ds ≡ list_any (has_datum (λ u. same_uid u v)) ds
member_there o v ds is = ap (λ (o : Option Uid). list_any (has_datum (is_in o)) ds) is

-- ---- one near number more

any_more : (p : ℕ → Bool) (near : List ℕ) (i n : ℕ) → i < length near → n ≡ get_or near i n → list_any p (take (i + 1) near) ≡ (list_any p (take i near) || p n)
any_more p near i n within is =
    let more : take (i + 1) near ≡ take i near ++ n ∷ [] = take_more near i n within ∙ ap (λ x. take i near ++ x ∷ []) (sym is) in
    ap (list_any p) more ∙ any_push p (take i near) n

pub no_member_more : (keys : List Uid) (near : List ℕ) (ds : List Datum) (i n : ℕ) → i < length near → n ≡ get_or near i n → list_any (has_datum (λ u. list_any (is_number_of keys u) (take i near))) ds ≡ false → list_any (has_datum (λ u. is_number_of keys u n)) ds ≡ false
    → list_any (has_datum (λ u. list_any (is_number_of keys u) (take (i + 1) near))) ds ≡ false
no_member_more keys near ds i n within is before here =
    let p : Uid → Bool = λ u. list_any (is_number_of keys u) (take i near) in
    let q : Uid → Bool = λ u. is_number_of keys u n in
    no_members (λ u. p u || q u) (λ u. list_any (is_number_of keys u) (take (i + 1) near)) (λ u h. any_more (is_number_of keys u) near i n within is ∙ h) ds (neither_member p q ds before here)
