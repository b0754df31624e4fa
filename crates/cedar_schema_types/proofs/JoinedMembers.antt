-- What belongs to a type belongs to what it joins to.
use Rattle.std.proofs.Common.{ℕ, Bool, true, false, List, [], ◌∷◌, Option, Some, None}
use Rattle.std.specs.List.{AllByRecursion}
use Rattle.std.specs.Str.{bytes_eq}
use Rattle.cedar_value.specs.Datum.{Datum, boolean, set, record_of, list_of, pairs_of}
use Rattle.cedar_value.specs.Records.{value_at}
use Rattle.cedar_schema_types.specs.declared.truth.Truth.{Truth}
use Rattle.cedar_schema_types.specs.declared.truth.Truth.TheVariants.{True, False, Any}
use Rattle.cedar_schema_types.specs.Types.{TypeTree, Attributes}
use Rattle.cedar_schema_types.specs.Joining.{join_truths}
use Rattle.cedar_schema_types.specs.Joins.{Join, join_boolean, join_long, join_string, join_entity, join_extension, join_set, join_record, JoinAttributes, join_none, join_attribute, MembersStay}
use Rattle.cedar_schema_types.specs.Membership.{HasTruth, IsBoolean, IsSetOf, IsRecord, MayStand, Choose, Member, At}

all_weaker : (P Q : Datum → Type 0) (vs : List Datum) → ((v : Datum) → P v → Q v) → AllByRecursion P vs → AllByRecursion Q vs
all_weaker P Q [] f h = tt
all_weaker P Q (v ∷ vs) f h = (f v h.0, all_weaker P Q vs f h.1)

stands_weaker : (r : Bool) (P Q : Datum → Type 0) (o : Option Datum) → ((v : Datum) → P v → Q v) → MayStand r P o → MayStand r Q o
stands_weaker r P Q None f h = h
stands_weaker r P Q (Some v) f h = f v h

-- a form's own, and that of a join
truth_left : (f g : Truth) (b : Bool) → HasTruth f b → HasTruth (join_truths f g) b
truth_left True True b h = h
truth_left True False b h = tt
truth_left True Any b h = tt
truth_left False True b h = tt
truth_left False False b h = h
truth_left False Any b h = tt
truth_left Any True b h = tt
truth_left Any False b h = tt
truth_left Any Any b h = tt

truth_right : (f g : Truth) (b : Bool) → HasTruth g b → HasTruth (join_truths f g) b
truth_right True True b h = h
truth_right True False b h = tt
truth_right True Any b h = tt
truth_right False True b h = tt
truth_right False False b h = h
truth_right False Any b h = tt
truth_right Any True b h = tt
truth_right Any False b h = tt
truth_right Any Any b h = tt

boolean_weaker : (P Q : Bool → Type 0) (v : Datum) → ((b : Bool) → P b → Q b) → IsBoolean P v → IsBoolean Q v
boolean_weaker P Q (boolean b) f h = f b h
boolean_weaker P Q _ f h = absurd h

set_weaker : (P Q : Datum → Type 0) (v : Datum) → ((x : Datum) → P x → Q x) → IsSetOf P v → IsSetOf Q v
set_weaker P Q (set ms) f h = all_weaker P Q (list_of ms) f h
set_weaker P Q _ f h = absurd h

record_weaker : (P Q : List ℕ → Option Datum → Type 0) (v : Datum) → ((k : List ℕ) (o : Option Datum) → P k o → Q k o) → IsRecord P v → IsRecord Q v
record_weaker P Q (record_of fs) f h = λ k. f k (value_at k (pairs_of fs)) (h k)
record_weaker P Q _ f h = absurd h

choose_weaker : (b : Bool) (A B C D : Type 0) → (A → C) → (B → D) → Choose b A B → Choose b C D
choose_weaker true A B C D f g h = f h
choose_weaker false A B C D f g h = g h

-- a member of a type is one of what it joins to
mutual
  pub join_left : {t u v : TypeTree} → Join t u v → (x : Datum) → Member t x → Member v x
  join_left (join_boolean {f = f} {g = g}) x h = boolean_weaker (HasTruth f) (HasTruth (join_truths f g)) x (truth_left f g) h
  join_left join_long x h = h
  join_left join_string x h = h
  join_left join_entity x h = h
  join_left join_extension x h = h
  join_left (join_set {t = t} {v = v} j) x h = set_weaker (Member t) (Member v) x (join_left j) h
  join_left (join_record {a = a} {d = d} js) x h = record_weaker (At a) (At d) x (attributes_left js) h

  attributes_left : {a b d : Attributes} → JoinAttributes a b d → (k : List ℕ) (o : Option Datum) → At a k o → At d k o
  attributes_left join_none i o h = h
  attributes_left (join_attribute {k = k} {r = r} {t = t} {v = v} {a = a} {d = d} j js) i o h =
      choose_weaker (bytes_eq k i) (MayStand r (Member t) o) (At a i o) (MayStand r (Member v) o) (At d i o) (stands_weaker r (Member t) (Member v) o (join_left j)) (attributes_left js i o) h

mutual
  pub join_right : {t u v : TypeTree} → Join t u v → (x : Datum) → Member u x → Member v x
  join_right (join_boolean {f = f} {g = g}) x h = boolean_weaker (HasTruth g) (HasTruth (join_truths f g)) x (truth_right f g) h
  join_right join_long x h = h
  join_right join_string x h = h
  join_right join_entity x h = h
  join_right join_extension x h = h
  join_right (join_set {u = u} {v = v} j) x h = set_weaker (Member u) (Member v) x (join_right j) h
  join_right (join_record {b = b} {d = d} js) x h = record_weaker (At b) (At d) x (attributes_right js) h

  attributes_right : {a b d : Attributes} → JoinAttributes a b d → (k : List ℕ) (o : Option Datum) → At b k o → At d k o
  attributes_right join_none i o h = h
  attributes_right (join_attribute {k = k} {r = r} {u = u} {v = v} {b = b} {d = d} j js) i o h =
      choose_weaker (bytes_eq k i) (MayStand r (Member u) o) (At b i o) (MayStand r (Member v) o) (At d i o) (stands_weaker r (Member u) (Member v) o (join_right j)) (attributes_right js i o) h

pub members_stay : MembersStay
members_stay t u v x j = (join_left j x, join_right j x)
