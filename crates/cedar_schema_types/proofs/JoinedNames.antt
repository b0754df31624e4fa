-- The names of joined attributes.
use Rattle.std.proofs.Common.{◌≡◌, ℕ, Bool, true, false, ◌&&◌, bytes_eq, List, ◌∷◌, Option, Some, None, refl, sym, ap, subst, ◌∙◌}
use Rattle.std.specs.List.Sorted.{IsStrictlySortedBy}
use Rattle.cedar_value.specs.Order.{text_cmp}
use Rattle.cedar_schema_types.specs.Types.{TypeTree, Attributes, no_attributes, attribute, names_of}
use Rattle.cedar_schema_types.specs.TypeKind.{attributes_of}
use Rattle.cedar_schema_types.specs.Joining.{join, join_attributes, joined_attribute, only_if, same_bool}
use Rattle.cedar_schema_types.specs.Ordered.{AreNamesAscending}
use Rattle.cedar_schema_types.specs.declared.attribute.Attribute.{Attribute}
use Rattle.cedar_schema_types.proofs.Orders.{names_of-attributes_of}

joined_names : (t : Bool) (k : List ℕ) (r : Bool) (a d : Attributes) (o : Option TypeTree) (m : Option Attributes) → ((e : Attributes) → m ≡ Some e → names_of e ≡ names_of a) → only_if t (joined_attribute k r o m) ≡ Some d → names_of d ≡ k ∷ names_of a
joined_names true k r a d (Some v) (Some e) rest h =
    let is : attribute k r v e ≡ d = cc in
    ap names_of (sym is) ∙ ap (λ (ks : List (List ℕ)). k ∷ ks) (rest e refl)
joined_names true k r a d (Some v) None rest h = cc
joined_names true k r a d None m rest h = cc
joined_names false k r a d o m rest h = cc

-- they are those of the one, and of the other
names_kept : (a b d : Attributes) → join_attributes a b ≡ Some d → names_of d ≡ names_of a
names_kept no_attributes no_attributes d h = let is : no_attributes ≡ d = cc in ap names_of (sym is)
names_kept no_attributes (attribute l q u b) d h = cc
names_kept (attribute k r t a) no_attributes d h = cc
names_kept (attribute k r t a) (attribute l q u b) d h = joined_names (bytes_eq k l && same_bool r q) k r a d (join t u) (join_attributes a b) (names_kept a b) h

pub joined_ascend : (as' bs ds : List Attribute) → AreNamesAscending as' → Some (attributes_of ds) ≡ join_attributes (attributes_of as') (attributes_of bs) → AreNamesAscending ds
joined_ascend as' bs ds up h =
    subst (λ (ks : List (List ℕ)). IsStrictlySortedBy text_cmp ks)
    (sym (names_of-attributes_of as') ∙ sym (names_kept (attributes_of as') (attributes_of bs) (attributes_of ds) (sym h)) ∙ names_of-attributes_of ds) up
