-- The test of membership, kind by kind: a value of another kind is not a member.
use Rattle.std.proofs.Common.{◌≡◌, ◌==◌, ℕ, suc, ℤ, Bool, Box, Global, false, length, List, [], ◌∷◌, Some, None, refl, sym, ap, ◌∙◌, arith}
use Rattle.cedar_value.specs.Datum.{Datum}
use Rattle.cedar_value.specs.ValueKind.{datum_of}
use Rattle.cedar_value.specs.declared.uid.Uid.{Uid as EntityUid}
use Rattle.cedar_value.specs.declared.value.ValueKind.{ValueKind}
use Rattle.cedar_ext.specs.declared.extension.Extension.{Extension as ExtensionValue}
use Rattle.cedar_ext.specs.declared.extension.ExtensionType.{ExtensionType}
use Rattle.cedar_value.specs.declared.value.ValueKind.TheVariants.{Boolean, Long, String, Uid, Set, Record, Extension}
use Rattle.cedar_schema_types.specs.declared.truth.Truth.{Truth}
use Rattle.cedar_schema_types.specs.Types.{TypeTree, Attributes}
use Rattle.cedar_schema_types.specs.Types as kind
use Rattle.cedar_schema_types.specs.TypeKind.{attributes_of}
use Rattle.cedar_schema_types.specs.declared.attribute.Attribute.{Attribute}
use Rattle.cedar_conform_values.specs.Private.MemberTest.{none_left, behind, holds, is_member, are_fields}

abbrev Pair : Type 0
Pair = List ℕ × Datum

-- the value is not a member
abbrev pub IsOther : TypeTree → ValueKind → Type 0
IsOther t l = is_member t (datum_of l) ≡ false

pub other_boolean : (f : Truth) (l : ValueKind) → ((y : Bool) → l ≡ Boolean y → ⊥) → IsOther (kind.boolean f) l
unfolding is_member
other_boolean f (Boolean y) h = absurd (h y refl)
other_boolean f _ h = refl

pub other_long : (l : ValueKind) → ((y : ℤ) → l ≡ Long y → ⊥) → IsOther kind.long l
unfolding is_member
other_long (Long y) h = absurd (h y refl)
other_long _ h = refl

pub other_string : (l : ValueKind) → ((y : List ℕ) → l ≡ String y → ⊥) → IsOther kind.string l
unfolding is_member
other_string (String y) h = absurd (h y refl)
other_string _ h = refl

pub other_entity : (n : List ℕ) (l : ValueKind) → ((y : Box EntityUid Global) → l ≡ Uid y → ⊥) → IsOther (kind.entity n) l
unfolding is_member
other_entity n (Uid y) h = absurd (h y refl)
other_entity n _ h = refl

pub other_set : (t : TypeTree) (l : ValueKind) → ((y : List Datum) → l ≡ Set y → ⊥) → IsOther (kind.set t) l
unfolding is_member
other_set t (Set y) h = absurd (h y refl)
other_set t _ h = refl

pub other_record : (a : Attributes) (l : ValueKind) → ((y : List (List ℕ × Datum)) → l ≡ Record y → ⊥) → IsOther (kind.record_of a) l
unfolding is_member
other_record a (Record y) h = absurd (h y refl)
other_record a _ h = refl

pub other_extension : (t : ExtensionType) (l : ValueKind) → ((y : ExtensionValue) → l ≡ Extension y → ⊥) → IsOther (kind.extension t) l
unfolding is_member
other_extension t (Extension y) h = absurd (h y refl)
other_extension t _ h = refl

-- ---- the walk over attributes and pairs

walk_first : (xs : List Attribute) (x : Attribute) (rest : List Attribute) (ps : List Pair) → xs ≡ x ∷ rest → are_fields (attributes_of xs) ps ≡ holds (are_fields (attributes_of rest)) (behind x.name x.required (is_member x.ty) ps)
unfolding are_fields
walk_first xs x rest ps e = ap (λ (ys : List Attribute). are_fields (attributes_of ys) ps) e

pub walk_refused : (xs : List Attribute) (x : Attribute) (rest : List Attribute) (ps : List Pair) (all : Bool) → xs ≡ x ∷ rest → None ≡ behind x.name x.required (is_member x.ty) ps → are_fields (attributes_of xs) ps ≡ all → false ≡ all
walk_refused xs x rest ps all e none same = ap (holds (are_fields (attributes_of rest))) none ∙ sym (walk_first xs x rest ps e) ∙ same

pub walk_on : (xs : List Attribute) (x : Attribute) (rest : List Attribute) (ps later : List Pair) (all : Bool) → xs ≡ x ∷ rest → Some later ≡ behind x.name x.required (is_member x.ty) ps → are_fields (attributes_of xs) ps ≡ all → are_fields (attributes_of rest) later ≡ all
walk_on xs x rest ps later all e some same = ap (holds (are_fields (attributes_of rest))) some ∙ sym (walk_first xs x rest ps e) ∙ same

not_zero : (n : ℕ) → (suc n == 0) ≡ false
not_zero n = grind arith

empty_left : (ps : List Pair) → (length ps == 0) ≡ none_left ps
empty_left [] = refl
empty_left (p ∷ ps) = not_zero (length ps)

pub walk_end : (xs : List Attribute) (ps : List Pair) (all : Bool) → length xs ≡ 0 → are_fields (attributes_of xs) ps ≡ all → (length ps == 0) ≡ all
unfolding are_fields
walk_end [] ps all e same = empty_left ps ∙ same
walk_end (x ∷ xs) ps all e same = cc
