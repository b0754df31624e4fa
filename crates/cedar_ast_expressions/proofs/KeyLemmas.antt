-- A set of the keys that were met, of which none is repeated.
use Rattle.std.proofs.Common.{◌≡◌, ℕ, ◌+◌, ◌<◌, Bool, true, false, cond, ◌||◌, Bor, List, [], ◌∷◌, ◌++◌, length, get_or, take, map, Ordering, Some, refl, sym, ap, subst, ◌∙◌, add-one, arith}
use Rattle.std.specs.Prelude.{Contains}
use Rattle.std.specs.BTreeSet.{BTreeSet, contains, Updates}
use Rattle.std.specs.Cmp.Lexicographic.{slice_cmp}
use Rattle.std.specs.List.{list_any}
use Rattle.std.specs.Ordering.{nat_cmp}
use Rattle.std.specs.Str.{bytes_eq}
use Rattle.std.proofs.Math.Seq.{take-suc}
use Rattle.std.proofs.lemmas.List.{get_or-map, get_or-take, length-map, length-take-le, map-append, take-map}
use Rattle.std.proofs.lemmas.List.Folds.{list_any-append}
use Rattle.std.proofs.lemmas.Map.Keys.{IsDistinct-push}
use Rattle.std.proofs.lemmas.Map.Made.{AllPairs-from_IsDistinct, IsDistinct-from_AllPairs}
use Rattle.std.proofs.lemmas.Map.Text.{is_eq-slice_cmp}
use Rattle.std.proofs.lemmas.Map.Views.{Contains-from_any}
use Rattle.std.proofs.lemmas.Option.{get_or_from_slice_get, slice_get-get_or, slice_get_within}
use Rattle.std.proofs.lemmas.Slice.Eq.{bytes_eq-Decides}
use Rattle.cedar_value.specs.Private.Equality.{text_equivalence}
use Rattle.cedar_ast_expressions.specs.Keys.{AreDistinct, IsFirstRepeated}

abbrev pub texts : List (Bor (List ℕ)) → List (List ℕ)
texts bs = map (λ b. b.now) bs

abbrev pub by_bytes : Bor (List ℕ) → Bor (List ℕ) → Ordering
by_bytes a b = slice_cmp nat_cmp a.now b.now

-- none of the keys is repeated, and the set has them and no others
pub record IsSetOf (bs : List (Bor (List ℕ))) (s : BTreeSet (Bor (List ℕ))) : Type 0 where
  pub distinct : AreDistinct (texts bs)
  pub has : (q : Bor (List ℕ)) → contains by_bytes s q ≡ list_any (bytes_eq q.now) (texts bs)

or_true : (a : Bool) → (a || true) ≡ true
or_true true = refl
or_true false = refl

or_false : (a : Bool) → (a || false) ≡ a
or_false true = refl
or_false false = refl

has_next : (q b : List ℕ) (ks : List (List ℕ)) (old new : Bool) (test : Bool) → bytes_eq q b ≡ test → new ≡ cond test true old → old ≡ list_any (bytes_eq q) ks
    → new ≡ list_any (bytes_eq q) (ks ++ b ∷ [])
has_next q b ks old new true same e was = e ∙ sym (list_any-append (bytes_eq q) ks (b ∷ []) ∙ rw same (or_true (list_any (bytes_eq q) ks)))
has_next q b ks old new false differ e was = e ∙ was ∙ sym (list_any-append (bytes_eq q) ks (b ∷ []) ∙ rw differ (or_false (list_any (bytes_eq q) ks)))

IsSetOf-push : (bs : List (Bor (List ℕ))) (b : Bor (List ℕ)) (old new : BTreeSet (Bor (List ℕ))) → IsSetOf bs old
    → contains by_bytes old b ≡ false → Updates by_bytes old new b true → IsSetOf (bs ++ b ∷ []) new
IsSetOf-push bs b old new known fresh updates = record {
  distinct = subst AreDistinct (sym (map-append (λ b. b.now) bs (b ∷ []))) pushed;
  has = λ q. subst (λ ks. contains by_bytes new q ≡ list_any (bytes_eq q.now) ks) (sym (map-append (λ b. b.now) bs (b ∷ [])))
      (has_next q.now b.now (texts bs) (contains by_bytes old q) (contains by_bytes new q) (bytes_eq q.now b.now) refl (updates.0 q ∙ ap (λ t. cond t true (contains by_bytes old q)) (is_eq-slice_cmp b.now q.now ∙ text_equivalence.symm b.now q.now)) (known.has q));
}
  where
    pushed : AreDistinct (texts bs ++ b.now ∷ [])
    pushed = AllPairs-from_IsDistinct bytes_eq-Decides (texts bs ++ b.now ∷ []) (IsDistinct-push text_equivalence (texts bs) b.now (IsDistinct-from_AllPairs bytes_eq-Decides (texts bs) known.distinct) (sym (known.has b) ∙ fresh))

-- with the next key, that is new to the set
pub IsSetOf-next : (bs : List (Bor (List ℕ))) (i : ℕ) (d : Bor (List ℕ)) (old new : BTreeSet (Bor (List ℕ))) → i < length bs → IsSetOf (take i bs) old
    → contains by_bytes old (get_or bs i d) ≡ false → Updates by_bytes old new (get_or bs i d) true → IsSetOf (take (i + 1) bs) new
IsSetOf-next bs i d old new within known fresh updates =
    let next : take (i + 1) bs ≡ take i bs ++ (get_or bs i d ∷ []) = rw add-one (take-suc bs i d within) in
    subst (λ cs. IsSetOf cs new) (sym next) (IsSetOf-push (take i bs) (get_or bs i d) old new known fresh updates)

-- a key that the set has already is the first that came before
pub first_repeated-found : (bs : List (Bor (List ℕ))) (i : ℕ) (d : Bor (List ℕ)) (s : BTreeSet (Bor (List ℕ))) → i < length bs → IsSetOf (take i bs) s
    → contains by_bytes s (get_or bs i d) ≡ true → IsFirstRepeated (texts bs) i
first_repeated-found bs i d s within known found = record {
  distinct = subst AreDistinct (sym before) known.distinct;
  key = k;
  here = slice_get-get_or (texts bs) i d.now (rw length-map within) ∙ ap Some (get_or-map (λ b. b.now) bs i d d.now within);
  before = subst (λ ks. Contains ks k) (sym before) (Contains-from_any (λ x y. (bytes_eq-Decides x y).0) k (texts (take i bs)) (sym (known.has (get_or bs i d)) ∙ found));
}
  where
    k : List ℕ
    k = (get_or bs i d).now

    before : take i (texts bs) ≡ texts (take i bs)
    before = take-map (λ b. b.now) i bs

-- then not all are distinct
pub repeated-not_distinct : (ks : List (List ℕ)) (i : ℕ) → IsFirstRepeated ks i → AreDistinct ks → ⊥
repeated-not_distinct ks i r apart =
    let j = r.before.0 in
    let within : i < length ks = slice_get_within ks i r.key r.here in
    let below : j < i = omega (arith, r.before.1, length-take-le i ks) in
    apart j i r.key below within (sym (get_or-take i ks j r.key below) ∙ r.before.2 ∙ sym (get_or_from_slice_get ks i r.key r.key r.here))
