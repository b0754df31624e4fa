-- The order of values part by part, and that it is the order of their rows.
use Rattle.std.specs.Prelude.{◌≡◌, ℕ, ◌+◌, ℤ, pos, ◌+ℤ◌, ◌<ℤ◌, ◌<◌, Bool, true, false, List, [], ◌∷◌, refl}
use Rattle.std.proofs.Common.{arith, ap, sym, ◌∙◌}
use Rattle.std.proofs.lemmas.Int.{ints}
use Rattle.std.proofs.lemmas.Cmp.{ranked, int_ranked}
use Rattle.std.specs.declared.cmp.Ordering.{Ordering}
use Rattle.std.specs.declared.cmp.Ordering.TheVariants.{Less, Equal, Greater}
use Rattle.std.specs.Ordering.{int_cmp, nat_cmp, bool_cmp, ordering_then, MatchOrdering}
use Rattle.std.specs.Cmp.Lexicographic.{slice_cmp}
use Rattle.cedar_ext.specs.Extensions.{extension_cmp}
use Rattle.cedar_ext.specs.Private.ExtensionLemmas.{int_cmp-shift, extension_rows}
use Rattle.cedar_value.specs.Datum.{Datum, boolean, long, text, uid, set, record_of, extension, Members, no_members, member, Fields, no_fields, field, members_of, fields_of}
use Rattle.cedar_value.specs.Rows.{row, members_row, fields_row, text_row, truth_number}
use Rattle.cedar_value.specs.Order.{datum_cmp, text_cmp, uid_cmp, members_cmp, pairs_cmp}

abbrev pub kind_number : Datum → ℕ
kind_number (boolean b) = 1
kind_number (long z) = 2
kind_number (text s) = 3
kind_number (uid u) = 4
kind_number (set ds) = 5
kind_number (record_of ms) = 6
kind_number (extension e) = 7

abbrev mutual
  pub tree_cmp : Datum → Datum → Ordering
  tree_cmp (boolean b) (boolean c) = bool_cmp b c
  tree_cmp (long x) (long y) = int_cmp x y
  tree_cmp (text s) (text t) = text_cmp s t
  tree_cmp (uid u) (uid v) = uid_cmp u v
  tree_cmp (set ds) (set es) = tree_members ds es
  tree_cmp (record_of ms) (record_of ns) = tree_fields ms ns
  tree_cmp (extension a) (extension b) = extension_cmp a b
  tree_cmp a b = nat_cmp (kind_number a) (kind_number b)

  pub tree_members : Members → Members → Ordering
  tree_members no_members no_members = Equal
  tree_members no_members (member e es) = Less
  tree_members (member d ds) no_members = Greater
  tree_members (member d ds) (member e es) = ordering_then (tree_cmp d e) (tree_members ds es)

  pub tree_fields : Fields → Fields → Ordering
  tree_fields no_fields no_fields = Equal
  tree_fields no_fields (field l e ns) = Less
  tree_fields (field k d ms) no_fields = Greater
  tree_fields (field k d ms) (field l e ns) = ordering_then (ordering_then (text_cmp k l) (tree_cmp d e)) (tree_fields ms ns)

then_assoc : (o p q : Ordering) → ordering_then o (ordering_then p q) ≡ ordering_then (ordering_then o p) q
then_assoc Less p q = refl
then_assoc Equal p q = refl
then_assoc Greater p q = refl

then_equal : (o : Ordering) → ordering_then o Equal ≡ o
then_equal Less = refl
then_equal Equal = refl
then_equal Greater = refl

module _ (b c : ℕ) where
  as_ints : (o p : Ordering) → MatchOrdering o (pos (b + 1) <ℤ pos (c + 1)) (pos (b + 1) ≡ pos (c + 1)) (pos (c + 1) <ℤ pos (b + 1)) → MatchOrdering p (b < c) (b ≡ c) (c < b) → o ≡ p
  as_ints Less Less h g = refl
  as_ints Less Equal h g = absurd (omega (arith, ints))
  as_ints Less Greater h g = absurd (omega (arith, ints))
  as_ints Equal Less h g = absurd (omega (arith, ints))
  as_ints Equal Equal h g = refl
  as_ints Equal Greater h g = absurd (omega (arith, ints))
  as_ints Greater Less h g = absurd (omega (arith, ints))
  as_ints Greater Equal h g = absurd (omega (arith, ints))
  as_ints Greater Greater h g = refl

  int_cmp-suc : int_cmp (pos (b + 1)) (pos (c + 1)) ≡ nat_cmp b c
  int_cmp-suc = as_ints (int_cmp (pos (b + 1)) (pos (c + 1))) (nat_cmp b c) (int_ranked (pos (b + 1)) (pos (c + 1)) _ refl) (ranked b c _ refl)

  below_zero : (o : Ordering) → MatchOrdering o (pos 0 <ℤ pos (c + 1)) (pos 0 ≡ pos (c + 1)) (pos (c + 1) <ℤ pos 0) → o ≡ Less
  below_zero Less h = refl
  below_zero Equal h = absurd (omega (arith, ints))
  below_zero Greater h = absurd (omega (arith, ints))

  above_zero : (o : Ordering) → MatchOrdering o (pos (b + 1) <ℤ pos 0) (pos (b + 1) ≡ pos 0) (pos 0 <ℤ pos (b + 1)) → o ≡ Greater
  above_zero Less h = absurd (omega (arith, ints))
  above_zero Equal h = absurd (omega (arith, ints))
  above_zero Greater h = refl

-- rows of two texts, each before a rest
text_rows : (x y : List ℕ) (s t : List ℤ) → slice_cmp int_cmp (text_row x s) (text_row y t) ≡ ordering_then (text_cmp x y) (slice_cmp int_cmp s t)
text_rows [] [] s t = refl
text_rows [] (c ∷ y) s t =
    ap (λ o. ordering_then o (slice_cmp int_cmp s (text_row y t))) (below_zero 0 c (int_cmp (pos 0) (pos (c + 1))) (int_ranked (pos 0) (pos (c + 1)) _ refl))
text_rows (b ∷ x) [] s t =
    ap (λ o. ordering_then o (slice_cmp int_cmp (text_row x s) t)) (above_zero b 0 (int_cmp (pos (b + 1)) (pos 0)) (int_ranked (pos (b + 1)) (pos 0) _ refl))
text_rows (b ∷ x) (c ∷ y) s t =
    (λ i. ordering_then (int_cmp-suc b c i) (text_rows x y s t i)) ∙ then_assoc (nat_cmp b c) (text_cmp x y) (slice_cmp int_cmp s t)

bool_rows : (b c : Bool) → int_cmp (truth_number b) (truth_number c) ≡ bool_cmp b c
bool_rows false false = refl
bool_rows false true = refl
bool_rows true false = refl
bool_rows true true = refl

end_first : (d : Datum) (s t : List ℤ) → slice_cmp int_cmp (pos 0 ∷ s) (row d t) ≡ Less
end_first (boolean b) s t = refl
end_first (long z) s t = refl
end_first (text x) s t = refl
end_first (uid u) s t = refl
end_first (set ds) s t = refl
end_first (record_of ms) s t = refl
end_first (extension e) s t = refl

end_last : (d : Datum) (s t : List ℤ) → slice_cmp int_cmp (row d s) (pos 0 ∷ t) ≡ Greater
end_last (boolean b) s t = refl
end_last (long z) s t = refl
end_last (text x) s t = refl
end_last (uid u) s t = refl
end_last (set ds) s t = refl
end_last (record_of ms) s t = refl
end_last (extension e) s t = refl

mutual
  pub rows : (a b : Datum) (s t : List ℤ) → slice_cmp int_cmp (row a s) (row b t) ≡ ordering_then (tree_cmp a b) (slice_cmp int_cmp s t)
  rows (boolean b) (boolean c) s t = ap (λ o. ordering_then o (slice_cmp int_cmp s t)) (bool_rows b c)
  rows (long x) (long y) s t = ap (λ o. ordering_then o (slice_cmp int_cmp s t)) (int_cmp-shift x y (pos 9223372036854775808))
  rows (text x) (text y) s t = text_rows x y s t
  rows (uid u) (uid v) s t =
      text_rows u.ty v.ty (text_row u.id s) (text_row v.id t)
      ∙ ap (ordering_then (text_cmp u.ty v.ty)) (text_rows u.id v.id s t)
      ∙ then_assoc (text_cmp u.ty v.ty) (text_cmp u.id v.id) (slice_cmp int_cmp s t)
  rows (set ds) (set es) s t = member_rows ds es s t
  rows (record_of ms) (record_of ns) s t = field_rows ms ns s t
  rows (extension a) (extension b) s t = extension_rows a b s t
  rows a b s t = refl

  member_rows : (ds es : Members) (s t : List ℤ) → slice_cmp int_cmp (members_row ds s) (members_row es t) ≡ ordering_then (tree_members ds es) (slice_cmp int_cmp s t)
  member_rows no_members no_members s t = refl
  member_rows no_members (member e es) s t = end_first e s (members_row es t)
  member_rows (member d ds) no_members s t = end_last d (members_row ds s) t
  member_rows (member d ds) (member e es) s t =
      rows d e (members_row ds s) (members_row es t) ∙ ap (ordering_then (tree_cmp d e)) (member_rows ds es s t) ∙ then_assoc (tree_cmp d e) (tree_members ds es) (slice_cmp int_cmp s t)

  field_rows : (ms ns : Fields) (s t : List ℤ) → slice_cmp int_cmp (fields_row ms s) (fields_row ns t) ≡ ordering_then (tree_fields ms ns) (slice_cmp int_cmp s t)
  field_rows no_fields no_fields s t = refl
  field_rows no_fields (field l e ns) s t = refl
  field_rows (field k d ms) no_fields s t = refl
  field_rows (field k d ms) (field l e ns) s t =
      text_rows k l (row d (fields_row ms s)) (row e (fields_row ns t))
      ∙ ap (ordering_then (text_cmp k l)) (rows d e (fields_row ms s) (fields_row ns t))
      ∙ then_assoc (text_cmp k l) (tree_cmp d e) (slice_cmp int_cmp (fields_row ms s) (fields_row ns t))
      ∙ ap (ordering_then (ordering_then (text_cmp k l) (tree_cmp d e))) (field_rows ms ns s t)
      ∙ then_assoc (ordering_then (text_cmp k l) (tree_cmp d e)) (tree_fields ms ns) (slice_cmp int_cmp s t)

pub datum_cmp-tree : (a b : Datum) → datum_cmp a b ≡ tree_cmp a b
unfolding datum_cmp
datum_cmp-tree a b = rows a b [] [] ∙ then_equal (tree_cmp a b)

tree_members-list : (ds es : List Datum) → tree_members (members_of ds) (members_of es) ≡ members_cmp ds es
tree_members-list [] [] = refl
tree_members-list [] (e ∷ es) = refl
tree_members-list (d ∷ ds) [] = refl
tree_members-list (d ∷ ds) (e ∷ es) = λ i. ordering_then (sym (datum_cmp-tree d e) i) (tree_members-list ds es i)

tree_fields-list : (ps qs : List (List ℕ × Datum)) → tree_fields (fields_of ps) (fields_of qs) ≡ pairs_cmp ps qs
tree_fields-list [] [] = refl
tree_fields-list [] (q ∷ qs) = refl
tree_fields-list (p ∷ ps) [] = refl
tree_fields-list (p ∷ ps) (q ∷ qs) = λ i. ordering_then (ordering_then (text_cmp p.0 q.0) (sym (datum_cmp-tree p.1 q.1) i)) (tree_fields-list ps qs i)

-- a set is compared as the list of its members
pub datum_cmp-sets : (ds es : List Datum) → datum_cmp (set (members_of ds)) (set (members_of es)) ≡ members_cmp ds es
datum_cmp-sets ds es = datum_cmp-tree (set (members_of ds)) (set (members_of es)) ∙ tree_members-list ds es

-- a record is compared as the list of its pairs
pub datum_cmp-records : (ps qs : List (List ℕ × Datum)) → datum_cmp (record_of (fields_of ps)) (record_of (fields_of qs)) ≡ pairs_cmp ps qs
datum_cmp-records ps qs = datum_cmp-tree (record_of (fields_of ps)) (record_of (fields_of qs)) ∙ tree_fields-list ps qs
