-- The function `join` computes the relation.
use Rattle.std.proofs.Common.{◌≡◌, ℕ, Bool, true, false, ◌&&◌, bytes_eq, List, Option, Some, None, option_map, refl, ap, subst}
use Rattle.std.proofs.lemmas.Slice.Eq.{bytes_eq-Decides}
use Rattle.cedar_ext.specs.declared.extension.ExtensionType.{ExtensionType}
use Rattle.cedar_ext.specs.Extensions.{same_type}
use Rattle.cedar_ext.specs.Private.ExtensionLemmas.{same_type-Decides}
use Rattle.cedar_schema_types.specs.Types.{TypeTree, boolean, long, string, entity, set, record_of, extension, Attributes, no_attributes, attribute}
use Rattle.cedar_schema_types.specs.Joining.{join_truths, only_if, same_bool, joined_attribute, join, join_attributes}
use Rattle.cedar_schema_types.specs.Joins.{Join, join_boolean, join_long, join_string, join_entity, join_set, join_record, join_extension, JoinAttributes, join_none, join_attribute, JoinIsComputed}

same_itself : (s : List ℕ) → bytes_eq s s ≡ true
same_itself s = (bytes_eq-Decides s s).1 refl

bool_itself : (b : Bool) → same_bool b b ≡ true
bool_itself true = refl
bool_itself false = refl

type_itself : (t : ExtensionType) → same_type t t ≡ true
type_itself t = (same_type-Decides t t).1 refl

-- each join that the relation has, `join` finds
mutual
  pub found : {a b d : TypeTree} → Join a b d → join a b ≡ Some d
  found join_boolean = refl
  found join_long = refl
  found join_string = refl
  found (join_entity {n = n}) = rw (same_itself n)
  found (join_set j) = ap (option_map set) (found j)
  found (join_record j) = ap (option_map record_of) (found_attributes j)
  found (join_extension {t = t}) = rw (type_itself t)

  pub found_attributes : {a b d : Attributes} → JoinAttributes a b d → join_attributes a b ≡ Some d
  found_attributes join_none = refl
  found_attributes (join_attribute {k = k} {r = r} j js) = rw (same_itself k, bool_itself r, found j, found_attributes js)

same_texts : (s u : List ℕ) → bytes_eq s u ≡ true → s ≡ u
same_texts s u = (bytes_eq-Decides s u).0

same_bools : (a b : Bool) → same_bool a b ≡ true → a ≡ b
same_bools true true e = refl
same_bools false false e = refl
same_bools true false e = cc
same_bools false true e = cc

entity_at : (n m : List ℕ) (d : TypeTree) (b : Bool) → bytes_eq n m ≡ b → only_if b (Some (entity n)) ≡ Some d → Join (entity n) (entity m) d
entity_at n m d true e h =
    let same : n ≡ m = same_texts n m e in
    let is : entity n ≡ d = cc in
    subst (λ x. Join (entity n) (entity x) d) same (subst (λ x. Join (entity n) (entity n) x) is join_entity)
entity_at n m d false e h = cc

extension_at : (t u : ExtensionType) (d : TypeTree) (b : Bool) → same_type t u ≡ b → only_if b (Some (extension t)) ≡ Some d → Join (extension t) (extension u) d
extension_at t u d true e h =
    let same : t ≡ u = (same_type-Decides t u).0 e in
    let is : extension t ≡ d = cc in
    subst (λ x. Join (extension t) (extension x) d) same (subst (λ x. Join (extension t) (extension t) x) is join_extension)
extension_at t u d false e h = cc

set_at : (t u d : TypeTree) (o : Option TypeTree) → ((v : TypeTree) → o ≡ Some v → Join t u v) → option_map set o ≡ Some d → Join (set t) (set u) d
set_at t u d (Some v) below h = let is : set v ≡ d = cc in subst (λ x. Join (set t) (set u) x) is (join_set (below v refl))
set_at t u d None below h = cc

record_at : (a b : Attributes) (d : TypeTree) (o : Option Attributes) → ((v : Attributes) → o ≡ Some v → JoinAttributes a b v) → option_map record_of o ≡ Some d → Join (record_of a) (record_of b) d
record_at a b d (Some v) below h = let is : record_of v ≡ d = cc in subst (λ x. Join (record_of a) (record_of b) x) is (join_record (below v refl))
record_at a b d None below h = cc

attribute_at : (k l : List ℕ) (r q : Bool) (t u : TypeTree) (a b d : Attributes) (s1 s2 : Bool) (o : Option TypeTree) (m : Option Attributes) → bytes_eq k l ≡ s1 → same_bool r q ≡ s2
    → ((v : TypeTree) → o ≡ Some v → Join t u v) → ((v : Attributes) → m ≡ Some v → JoinAttributes a b v) → only_if (s1 && s2) (joined_attribute k r o m) ≡ Some d → JoinAttributes (attribute k r t a) (attribute l q u b) d
attribute_at k l r q t u a b d true true (Some v) (Some w) e f below rest h =
    let key : k ≡ l = same_texts k l e in
    let needed : r ≡ q = same_bools r q f in
    let is : attribute k r v w ≡ d = cc in
    subst (λ x. JoinAttributes (attribute k r t a) (attribute x q u b) d) key (subst (λ x. JoinAttributes (attribute k r t a) (attribute k x u b) d) needed
    (subst (λ x. JoinAttributes (attribute k r t a) (attribute k r u b) x) is (join_attribute (below v refl) (rest w refl))))
attribute_at k l r q t u a b d true true (Some v) None e f below rest h = cc
attribute_at k l r q t u a b d true true None m e f below rest h = cc
attribute_at k l r q t u a b d true false o m e f below rest h = cc
attribute_at k l r q t u a b d false s2 o m e f below rest h = cc

-- each join that `join` finds, the relation has
mutual
  pub sound : (a b d : TypeTree) → join a b ≡ Some d → Join a b d
  sound (boolean f) (boolean g) d h = let is : boolean (join_truths f g) ≡ d = cc in subst (λ x. Join (boolean f) (boolean g) x) is join_boolean
  sound long long d h = let is : long ≡ d = cc in subst (λ x. Join long long x) is join_long
  sound string string d h = let is : string ≡ d = cc in subst (λ x. Join string string x) is join_string
  sound (extension t) (extension u) d h = extension_at t u d _ refl h
  sound (entity n) (entity m) d h = entity_at n m d _ refl h
  sound (set t) (set u) d h = set_at t u d (join t u) (sound t u) h
  sound (record_of a) (record_of b) d h = record_at a b d (join_attributes a b) (sound_attributes a b) h
  sound a b d h = cc

  pub sound_attributes : (a b d : Attributes) → join_attributes a b ≡ Some d → JoinAttributes a b d
  sound_attributes no_attributes no_attributes d h = let is : no_attributes ≡ d = cc in subst (λ x. JoinAttributes no_attributes no_attributes x) is join_none
  sound_attributes (attribute k r t a) (attribute l q u b) d h = attribute_at k l r q t u a b d _ _ (join t u) (join_attributes a b) refl refl (sound t u) (sound_attributes a b) h
  sound_attributes a b d h = cc

pub join_is_computed : JoinIsComputed
join_is_computed a b d = (found, sound a b d)
