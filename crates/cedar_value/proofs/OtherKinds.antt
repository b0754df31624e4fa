-- A value of one kind compared with one of another that is looked at: by their kinds alone.
use Rattle.std.proofs.Common.{◌≡◌, ℕ, ℤ, Bool, Box, Global, List, nat_cmp, refl}
use Rattle.cedar_ext.specs.declared.extension.Extension.{Extension as ExtensionValue}
use Rattle.cedar_value.specs.Datum.{Datum}
use Rattle.cedar_value.specs.Order.{datum_cmp}
use Rattle.cedar_value.specs.Private.Compare.{kind_number, datum_cmp-tree}
use Rattle.cedar_value.specs.Glance.{datum_seen}
use Rattle.cedar_value.specs.ValueKind.{datum_of}
use Rattle.cedar_value.specs.declared.uid.Uid.{Uid as EntityUid}
use Rattle.cedar_value.specs.declared.glance.Glance.{Glance}
use Rattle.cedar_value.specs.declared.glance.Glance.TheVariants as look
use Rattle.cedar_value.specs.declared.value.ValueKind.{ValueKind}
use Rattle.cedar_value.specs.declared.value.ValueKind.TheVariants.{Boolean, Long, String, Uid, Set, Record, Extension}

-- the order is that of the kinds
abbrev pub ByKind : ValueKind → Glance → Type 0
ByKind k l = datum_cmp (datum_of k) (datum_seen l) ≡ nat_cmp (kind_number (datum_of k)) (kind_number (datum_seen l))

pub other-Boolean : (x : Bool) (l : Glance) → ((y : _) → l ≡ look.Boolean y → ⊥) → ByKind (Boolean x) l
other-Boolean x (look.Boolean y) h = absurd (h y refl)
other-Boolean x l h = datum_cmp-tree (datum_of (Boolean x)) (datum_seen l)

pub other-Long : (x : ℤ) (l : Glance) → ((y : _) → l ≡ look.Long y → ⊥) → ByKind (Long x) l
other-Long x (look.Long y) h = absurd (h y refl)
other-Long x l h = datum_cmp-tree (datum_of (Long x)) (datum_seen l)

pub other-String : (x : List ℕ) (l : Glance) → ((y : _) → l ≡ look.String y → ⊥) → ByKind (String x) l
other-String x (look.String y) h = absurd (h y refl)
other-String x l h = datum_cmp-tree (datum_of (String x)) (datum_seen l)

pub other-Uid : (x : Box EntityUid Global) (l : Glance) → ((y : _) → l ≡ look.Uid y → ⊥) → ByKind (Uid x) l
other-Uid x (look.Uid y) h = absurd (h y refl)
other-Uid x l h = datum_cmp-tree (datum_of (Uid x)) (datum_seen l)

pub other-Set : (x : List Datum) (l : Glance) → ((y : _) → l ≡ look.Set y → ⊥) → ByKind (Set x) l
other-Set x (look.Set y) h = absurd (h y refl)
other-Set x l h = datum_cmp-tree (datum_of (Set x)) (datum_seen l)

pub other-Record : (x : List (List ℕ × Datum)) (l : Glance) → ((y : _) → l ≡ look.Record y → ⊥) → ByKind (Record x) l
other-Record x (look.Record y) h = absurd (h y refl)
other-Record x l h = datum_cmp-tree (datum_of (Record x)) (datum_seen l)

pub other-Extension : (x : ExtensionValue) (l : Glance) → ((y : _) → l ≡ look.Extension y → ⊥) → ByKind (Extension x) l
other-Extension x (look.Extension y) h = absurd (h y refl)
other-Extension x l h = datum_cmp-tree (datum_of (Extension x)) (datum_seen l)
