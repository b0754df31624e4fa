-- A value as a tree of numbers, from which it is read back, so that what contracts see may hold values.
use Rattle.std.specs.Prelude.{◌≡◌, ℕ, zero, suc, ℤ, pos, negsuc, Bool, true, false, List, [], ◌∷◌, refl}
use Rattle.std.proofs.Common.{ap}
use base.Stored.{Gv, gnil, gnum, gcons, Coded}
use denote.Struct.Codes.{code_by, itself}
use Rattle.cedar_ext.specs.Private.ExtensionCode.{int_tree, int_from, int_back, extension_tree, extension_from, extension_back}
use Rattle.cedar_value.specs.Datum.{Datum, boolean, long, text, uid, set, record_of, extension, Members, no_members, member, Fields, no_fields, field}

abbrev pub bytes_tree : List ℕ → Gv
bytes_tree [] = gnil
bytes_tree (b ∷ bs) = gcons (gnum b) (bytes_tree bs)

abbrev pub bytes_from : Gv → List ℕ
bytes_from gnil = []
bytes_from (gnum n) = []
bytes_from (gcons gnil t) = []
bytes_from (gcons (gnum b) t) = b ∷ bytes_from t
bytes_from (gcons (gcons a b) t) = []

abbrev pub truth_tree : Bool → Gv
truth_tree true = gnum 0
truth_tree false = gnil

abbrev pub truth_from : Gv → Bool
truth_from gnil = false
truth_from (gnum n) = true
truth_from (gcons a b) = true

abbrev mutual
  pub datum_tree : Datum → Gv
  datum_tree (boolean b) = gcons (gnum zero) (truth_tree b)
  datum_tree (long z) = gcons (gnum (suc zero)) (int_tree z)
  datum_tree (text s) = gcons (gnum (suc (suc zero))) (bytes_tree s)
  datum_tree (uid u) = gcons (gnum (suc (suc (suc zero)))) (gcons (bytes_tree u.ty) (bytes_tree u.id))
  datum_tree (set ds) = gcons (gnum (suc (suc (suc (suc zero))))) (members_tree ds)
  datum_tree (record_of ms) = gcons (gnum (suc (suc (suc (suc (suc zero)))))) (fields_tree ms)
  datum_tree (extension e) = gcons (gnum (suc (suc (suc (suc (suc (suc zero))))))) (extension_tree e)

  pub members_tree : Members → Gv
  members_tree no_members = gnil
  members_tree (member d ds) = gcons (datum_tree d) (members_tree ds)

  pub fields_tree : Fields → Gv
  fields_tree no_fields = gnil
  fields_tree (field k d ms) = gcons (gcons (bytes_tree k) (datum_tree d)) (fields_tree ms)

abbrev mutual
  pub datum_from : Gv → Datum
  datum_from gnil = boolean false
  datum_from (gnum n) = boolean false
  datum_from (gcons gnil t) = boolean false
  datum_from (gcons (gcons a b) t) = boolean false
  datum_from (gcons (gnum zero) t) = boolean (truth_from t)
  datum_from (gcons (gnum (suc zero)) t) = long (int_from t)
  datum_from (gcons (gnum (suc (suc zero))) t) = text (bytes_from t)
  datum_from (gcons (gnum (suc (suc (suc zero)))) gnil) = boolean false
  datum_from (gcons (gnum (suc (suc (suc zero)))) (gnum n)) = boolean false
  datum_from (gcons (gnum (suc (suc (suc zero)))) (gcons t i)) = uid (record { ty = bytes_from t; id = bytes_from i })
  datum_from (gcons (gnum (suc (suc (suc (suc zero))))) t) = set (members_from t)
  datum_from (gcons (gnum (suc (suc (suc (suc (suc zero)))))) t) = record_of (fields_from t)
  datum_from (gcons (gnum (suc (suc (suc (suc (suc (suc n))))))) t) = extension (extension_from t)

  pub members_from : Gv → Members
  members_from gnil = no_members
  members_from (gnum n) = no_members
  members_from (gcons d ds) = member (datum_from d) (members_from ds)

  pub fields_from : Gv → Fields
  fields_from gnil = no_fields
  fields_from (gnum n) = no_fields
  fields_from (gcons gnil ms) = no_fields
  fields_from (gcons (gnum n) ms) = no_fields
  fields_from (gcons (gcons k d) ms) = field (bytes_from k) (datum_from d) (fields_from ms)

pub bytes_back : (s : List ℕ) → bytes_from (bytes_tree s) ≡ s
bytes_back [] = refl
bytes_back (b ∷ bs) = ap (λ t. b ∷ t) (bytes_back bs)

pub truth_back : (b : Bool) → truth_from (truth_tree b) ≡ b
truth_back true = refl
truth_back false = refl

mutual
  pub datum_back : (d : Datum) → datum_from (datum_tree d) ≡ d
  datum_back (boolean b) = ap boolean (truth_back b)
  datum_back (long z) = ap long (int_back z)
  datum_back (text s) = ap text (bytes_back s)
  datum_back (uid u) = λ k. uid (record { ty = bytes_back u.ty k; id = bytes_back u.id k })
  datum_back (set ds) = ap set (members_back ds)
  datum_back (record_of ms) = ap record_of (fields_back ms)
  datum_back (extension e) = ap extension (extension_back e)

  pub members_back : (ds : Members) → members_from (members_tree ds) ≡ ds
  members_back no_members = refl
  members_back (member d ds) = λ k. member (datum_back d k) (members_back ds k)

  pub fields_back : (ms : Fields) → fields_from (fields_tree ms) ≡ ms
  fields_back no_fields = refl
  fields_back (field key d ms) = λ k. field (bytes_back key k) (datum_back d k) (fields_back ms k)

abbrev pub datum_code : Coded Datum
datum_code = code_by Gv itself datum_tree datum_from datum_back
