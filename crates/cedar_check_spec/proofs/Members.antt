-- Members of types and of their joins.
use Rattle.std.proofs.Common.{◌≡◌, ℕ, Bool, true, false, cond, List, [], ◌∷◌, Option, Some, None, refl, sym, ap, subst, ◌∙◌}
use Rattle.std.specs.List.{AllByRecursion}
use Rattle.std.specs.Str.{bytes_eq}
use Rattle.std.proofs.lemmas.Slice.Eq.{bytes_eq-Decides}
use Rattle.std.proofs.lemmas.Cmp.{tied_itself, nat_list_cmp_total}
use Rattle.std.specs.declared.cmp.Ordering.{Ordering}
use Rattle.std.specs.declared.cmp.Ordering.TheVariants.{Less, Equal, Greater}
use Rattle.std.specs.Ordering.{match_ordering}
use Rattle.cedar_value.specs.Datum.{Datum}
use Rattle.cedar_value.specs.Order.{text_cmp}
use Rattle.cedar_value.specs.Private.Same.{text_same}
use Rattle.cedar_value.specs.Records.{value_at}
use Rattle.cedar_schema_types.specs.Types.{TypeTree, Attributes, no_attributes, attribute}
use Rattle.cedar_schema_types.specs.Joining.{join}
use Rattle.cedar_schema_types.proofs.Joined.{join_is_computed}
use Rattle.cedar_schema_types.specs.Joins.{Join}
use Rattle.cedar_schema_types.proofs.JoinedMembers.{members_stay}
use Rattle.cedar_schema_types.specs.Membership.{MayStand, IsAbsent, Choose, Member, At}
use Rattle.cedar_schema_types.specs.Lookup.{attribute_at}
use Rattle.cedar_schema_types.specs.declared.attribute.Attribute.{Attribute}
use Rattle.cedar_schema_types.specs.Ordered.{with_attribute}

-- what may be where this is declared
abbrev pub FitsDeclared : Option Attribute → Option Datum → Type 0
FitsDeclared None o = IsAbsent o
FitsDeclared (Some d) o = MayStand d.required (Member d.ty) o

here_or : (b : Bool) (d : Attribute) (r : Option Attribute) (o : Option Datum) (A : Type 0) → (A → FitsDeclared r o) → Choose b (MayStand d.required (Member d.ty) o) A → FitsDeclared (cond b (Some d) r) o
here_or true d r o A f h = h
here_or false d r o A f h = f h

pub at-find : (a : Attributes) (k : List ℕ) (o : Option Datum) → At a k o → FitsDeclared (attribute_at k a) o
at-find no_attributes k o h = h
at-find (attribute l r t a) k o h = here_or (bytes_eq l k) (record { name = l; required = r; ty = t }) (attribute_at k a) o (At a k o) (at-find a k o) h

or_here : (b : Bool) (d : Attribute) (r : Option Attribute) (o : Option Datum) (A : Type 0) → (FitsDeclared r o → A) → FitsDeclared (cond b (Some d) r) o → Choose b (MayStand d.required (Member d.ty) o) A
or_here true d r o A f h = h
or_here false d r o A f h = f h

pub find-at : (a : Attributes) (k : List ℕ) (o : Option Datum) → FitsDeclared (attribute_at k a) o → At a k o
find-at no_attributes k o h = h
find-at (attribute l r t a) k o h = or_here (bytes_eq l k) (record { name = l; required = r; ty = t }) (attribute_at k a) o (At a k o) (find-at a k o) h

pub all_weaker : (P Q : Datum → Type 0) (vs : List Datum) → ((v : Datum) → P v → Q v) → AllByRecursion P vs → AllByRecursion Q vs
all_weaker P Q [] f h = tt
all_weaker P Q (v ∷ vs) f h = (f v h.0, all_weaker P Q vs f h.1)

stands_weaker : (r : Bool) (P Q : Datum → Type 0) (o : Option Datum) → ((v : Datum) → P v → Q v) → MayStand r P o → MayStand r Q o
stands_weaker r P Q None f h = h
stands_weaker r P Q (Some v) f h = f v h

-- a member of a type is one of what it joins to
pub join_left : {t u v : TypeTree} → Join t u v → (x : Datum) → Member t x → Member v x
join_left {t} {u} {v} j x = (members_stay t u v x j).0

pub join_right : {t u v : TypeTree} → Join t u v → (x : Datum) → Member u x → Member v x
join_right {t} {u} {v} j x = (members_stay t u v x j).1

-- what a join computes
pub join_found : {t u v : TypeTree} → Join t u v → join t u ≡ Some v
join_found {t} {u} {v} j = (join_is_computed t u v).0 j

pub join_sound : (t u v : TypeTree) → join t u ≡ Some v → Join t u v
join_sound t u v e = (join_is_computed t u v).1 e

-- ---- one attribute more

pub text_from_same : (a b : List ℕ) → bytes_eq a b ≡ true → a ≡ b
text_from_same a b = (bytes_eq-Decides a b).0

pub same_text_itself : (a : List ℕ) → bytes_eq a a ≡ true
same_text_itself a = (bytes_eq-Decides a a).1 refl

not_same : (a b : List ℕ) → a ≡ b → text_cmp a b ≡ Greater → ⊥
not_same a b e d = let f = tied_itself nat_list_cmp_total a in let g : text_cmp a b ≡ Equal = sym (ap (text_cmp a) e) ∙ f in cc

twice : {A : Type 0} (b : Bool) (x y z : A) → cond b x z ≡ cond b x (cond b y z)
twice true x y z = refl
twice false x y z = refl

pub crossed : {A : Type 0} (b d : Bool) (x y z : A) → (b ≡ true → d ≡ true → ⊥) → cond b x (cond d y z) ≡ cond d y (cond b x z)
crossed true true x y z f = absurd (f refl refl)
crossed true false x y z f = refl
crossed false true x y z f = refl
crossed false false x y z f = refl

insert_here : (k i l : List ℕ) (t u : TypeTree) (r : Bool) (a : Attributes) → k ≡ l → attribute_at i (attribute k true t a) ≡ cond (bytes_eq k i) (Some (record { name = k; required = true; ty = t })) (attribute_at i (attribute l r u a))
insert_here k i l t u r a e = subst (λ (m : List ℕ). attribute_at i (attribute k true t a) ≡ cond (bytes_eq k i) (Some (record { name = k; required = true; ty = t })) (attribute_at i (attribute m r u a))) e (twice (bytes_eq k i) (Some (record { name = k; required = true; ty = t })) (Some (record { name = k; required = r; ty = u })) (attribute_at i a))

insert_at : (o : Ordering) (k i l : List ℕ) (t u : TypeTree) (r : Bool) (a : Attributes) → text_cmp k l ≡ o → attribute_at i (with_attribute k true t a) ≡ cond (bytes_eq k i) (Some (record { name = k; required = true; ty = t })) (attribute_at i a)
    → attribute_at i (match_ordering o (attribute k true t (attribute l r u a)) (attribute k true t a) (attribute l r u (with_attribute k true t a))) ≡ cond (bytes_eq k i) (Some (record { name = k; required = true; ty = t })) (attribute_at i (attribute l r u a))
insert_at Less k i l t u r a e rest = refl
insert_at Equal k i l t u r a e rest = insert_here k i l t u r a (text_same k l e)
insert_at Greater k i l t u r a e rest =
    ap (λ o. cond (bytes_eq l i) (Some (record { name = l; required = r; ty = u })) o) rest
    ∙ crossed (bytes_eq l i) (bytes_eq k i) (Some (record { name = l; required = r; ty = u })) (Some (record { name = k; required = true; ty = t })) (attribute_at i a)
    (λ p q. not_same k l (text_from_same k i q ∙ sym (text_from_same l i p)) e)

-- what an insertion declares
pub find-insert : (k i : List ℕ) (t : TypeTree) (a : Attributes) → attribute_at i (with_attribute k true t a) ≡ cond (bytes_eq k i) (Some (record { name = k; required = true; ty = t })) (attribute_at i a)
find-insert k i t no_attributes = refl
find-insert k i t (attribute l r u a) = insert_at (text_cmp k l) k i l t u r a refl (find-insert k i t a)

-- one more pair, at a type's one more attribute
pair_more : (b : Bool) (d : Attribute) (v : Datum) (r : Option Attribute) (o : Option Datum) → MayStand d.required (Member d.ty) (Some v) → FitsDeclared r o → FitsDeclared (cond b (Some d) r) (cond b (Some v) o)
pair_more true d v r o h m = h
pair_more false d v r o h m = m

-- the pairs have the attributes
abbrev pub HaveAttributes : Attributes → List (List ℕ × Datum) → Type 0
HaveAttributes a ps = (k : List ℕ) → At a k (value_at k ps)

pub pair_fits : (k : List ℕ) (t : TypeTree) (a : Attributes) (v : Datum) (ps : List (List ℕ × Datum)) → Member t v → HaveAttributes a ps → HaveAttributes (with_attribute k true t a) ((k, v) ∷ ps)
pair_fits k t a v ps h m = λ i.
    find-at (with_attribute k true t a) i (value_at i ((k, v) ∷ ps))
    (subst (λ r. FitsDeclared r (value_at i ((k, v) ∷ ps))) (sym (find-insert k i t a))
    (pair_more (bytes_eq k i) (record { name = k; required = true; ty = t }) v (attribute_at i a) (value_at i ps) h (at-find a i (value_at i ps) (m i))))
