-- The order of values is total, and values that it does not distinguish are the same tree.
use Rattle.std.specs.Prelude.{◌≡◌, ℕ, ℤ, ◌<ℤ◌, ◌<◌, Bool, true, false, List, [], ◌∷◌, refl}
use Rattle.std.proofs.Common.{ap, sym, ◌∙◌}
use Rattle.std.proofs.lemmas.Cmp.{ranked, int_ranked, tied_itself, lists_total, int_cmp_total, on_total}
use Rattle.std.specs.Cmp.{IsTotalOrder}
use Rattle.std.specs.declared.cmp.Ordering.{Ordering}
use Rattle.std.specs.declared.cmp.Ordering.TheVariants.{Less, Equal, Greater}
use Rattle.std.specs.Ordering.{int_cmp, nat_cmp, bool_cmp, ordering_then, MatchOrdering}
use Rattle.cedar_ext.specs.Private.ExtensionLemmas.{int_same, extension_same}
use Rattle.cedar_value.specs.Datum.{Datum, boolean, long, text, uid, set, record_of, extension, Members, no_members, member, Fields, no_fields, field}
use Rattle.cedar_value.specs.Order.{datum_cmp, text_cmp, uid_cmp, numbers_of}
use Rattle.cedar_value.specs.declared.uid.Uid.{Uid}
use Rattle.cedar_value.specs.Private.Compare.{tree_cmp, tree_members, tree_fields, datum_cmp-tree}

pub then_first : (o p : Ordering) → ordering_then o p ≡ Equal → o ≡ Equal
then_first Less p h = cc
then_first Equal p h = refl
then_first Greater p h = cc

pub then_second : (o p : Ordering) → ordering_then o p ≡ Equal → p ≡ Equal
then_second Less p h = cc
then_second Equal p h = h
then_second Greater p h = cc

nat_by : (x y : ℕ) (o : Ordering) → o ≡ Equal → MatchOrdering o (x < y) (x ≡ y) (y < x) → x ≡ y
nat_by x y Less e h = cc
nat_by x y Equal e h = h
nat_by x y Greater e h = cc

nat_same : (x y : ℕ) → nat_cmp x y ≡ Equal → x ≡ y
nat_same x y e = nat_by x y (nat_cmp x y) e (ranked x y _ refl)

bool_same : (b c : Bool) → bool_cmp b c ≡ Equal → b ≡ c
bool_same false false e = refl
bool_same false true e = cc
bool_same true false e = cc
bool_same true true e = refl

pub text_same : (x y : List ℕ) → text_cmp x y ≡ Equal → x ≡ y
text_same [] [] e = refl
text_same [] (c ∷ y) e = cc
text_same (b ∷ x) [] e = cc
text_same (b ∷ x) (c ∷ y) e =
    λ i. nat_same b c (then_first (nat_cmp b c) (text_cmp x y) e) i ∷ text_same x y (then_second (nat_cmp b c) (text_cmp x y) e) i

pub uid_same : (u v : Uid) → uid_cmp u v ≡ Equal → u ≡ v
uid_same u v e = λ i. record {
  ty = text_same u.ty v.ty (then_first (text_cmp u.ty v.ty) (text_cmp u.id v.id) e) i;
  id = text_same u.id v.id (then_second (text_cmp u.ty v.ty) (text_cmp u.id v.id) e) i;
}

mutual
  pub tree_same : (a b : Datum) → tree_cmp a b ≡ Equal → a ≡ b
  tree_same (boolean b) (boolean c) e = ap boolean (bool_same b c e)
  tree_same (long x) (long y) e = ap long (int_same x y e)
  tree_same (text x) (text y) e = ap text (text_same x y e)
  tree_same (uid u) (uid v) e = ap uid (uid_same u v e)
  tree_same (set ds) (set es) e = ap set (members_same ds es e)
  tree_same (record_of ms) (record_of ns) e = ap record_of (fields_same ms ns e)
  tree_same (extension a) (extension b) e = ap extension (extension_same a b e)
  tree_same a b e = cc

  pub members_same : (ds es : Members) → tree_members ds es ≡ Equal → ds ≡ es
  members_same no_members no_members e = refl
  members_same no_members (member d es) e = cc
  members_same (member d ds) no_members e = cc
  members_same (member d ds) (member f fs) e =
      λ k. member (tree_same d f (then_first (tree_cmp d f) (tree_members ds fs) e) k) (members_same ds fs (then_second (tree_cmp d f) (tree_members ds fs) e) k)

  pub fields_same : (ms ns : Fields) → tree_fields ms ns ≡ Equal → ms ≡ ns
  fields_same no_fields no_fields e = refl
  fields_same no_fields (field k d ns) e = cc
  fields_same (field k d ms) no_fields e = cc
  fields_same (field k d ms) (field l f ns) e =
      let o = text_cmp k l in
      let p = tree_cmp d f in
      let q = tree_fields ms ns in
      λ j. field
      (text_same k l (then_first o p (then_first (ordering_then o p) q e)) j)
      (tree_same d f (then_second o p (then_first (ordering_then o p) q e)) j)
      (fields_same ms ns (then_second (ordering_then o p) q e) j)

-- the order is total
pub datum_cmp_total : IsTotalOrder datum_cmp
unfolding datum_cmp
datum_cmp_total = on_total numbers_of (lists_total int_cmp_total)

pub datum_same : (a b : Datum) → datum_cmp a b ≡ Equal → a ≡ b
datum_same a b e = tree_same a b (sym (datum_cmp-tree a b) ∙ e)

pub datum_itself : (a : Datum) → datum_cmp a a ≡ Equal
datum_itself a = tied_itself datum_cmp_total a
