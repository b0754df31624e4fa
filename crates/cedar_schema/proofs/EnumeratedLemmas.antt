-- Ids that are looked up, and schemas without enumerated types, which have any uid.
use Rattle.std.proofs.Common.{◌≡◌, ◌&&◌, true, List, [], ◌∷◌, length, ℕ, Option, Some, refl, sym, ap, ◌∙◌}
use Rattle.std.specs.BTreeMap.{is_at}
use Rattle.std.specs.List.{list_any}
use Rattle.std.specs.Str.{bytes_eq}
use Rattle.cedar_value.specs.Private.Laws.{text_ties}
use Rattle.std.specs.Map.{lookup}
use Rattle.cedar_value.specs.Datum.{Datum, boolean, long, text, uid, set, record_of, extension, Members, no_members, member, Fields, no_fields, field}
use Rattle.cedar_value.specs.Order.{text_cmp}
use Rattle.cedar_value.specs.declared.uid.Uid.{Uid}
use Rattle.cedar_schema_spec.specs.Enumerated.{is_among, is_listed, has_listed, members_listed, fields_listed}
use Rattle.cedar_schema_spec.specs.SchemaTree.{SchemaTree, ids_of}

pub among_told : (id : List ℕ) (ids : List (List ℕ)) → list_any (is_at (text_cmp id)) ids ≡ list_any (bytes_eq id) ids
among_told id ids = λ i. list_any (λ (x : List ℕ). sym (text_ties id x) i) ids

pub listed_told : (s : SchemaTree) (u : Uid) (ids : List (List ℕ)) → Some ids ≡ ids_of s u.ty → list_any (is_at (text_cmp u.id)) ids ≡ is_listed s u
listed_told s u ids h = among_told u.id ids ∙ ap (is_among u.id) h

pub none_there : {A : Type 0} (xs : List A) → length xs ≡ 0 → xs ≡ []
none_there [] h = refl
none_there (x ∷ xs) h = cc

module _ (s : SchemaTree) (none : s.enumerated ≡ []) where
  any_uid : (u : Uid) → is_listed s u ≡ true
  any_uid u = ap (λ (es : List (List ℕ × List (List ℕ))). is_among u.id (lookup (is_at (text_cmp u.ty)) es)) none

  mutual
    any_value : (d : Datum) → has_listed s d ≡ true
    any_value (boolean b) = refl
    any_value (long n) = refl
    any_value (text t) = refl
    any_value (uid u) = any_uid u
    any_value (set ms) = any_members ms
    any_value (record_of fs) = any_fields fs
    any_value (extension x) = refl

    any_members : (ms : Members) → members_listed s ms ≡ true
    any_members no_members = refl
    any_members (member d ms) = let this = any_value d in let others = any_members ms in λ i. this i && others i

    pub any_fields : (fs : Fields) → fields_listed s fs ≡ true
    any_fields no_fields = refl
    any_fields (field k d fs) = let this = any_value d in let others = any_fields fs in λ i. this i && others i
