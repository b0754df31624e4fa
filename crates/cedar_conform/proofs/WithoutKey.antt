-- Members without a key, and the values of a request line with entities, a member at a time.
use Rattle.std.proofs.Common.{◌≡◌, ℕ, true, false, List, Bool, Option, Some, None, Ordering, Less, Equal, Greater, nat_cmp, is_eq, bytes_eq, refl, sym, ap, subst, ◌∙◌}
use Rattle.std.specs.Prelude.{codes, ◌||◌, if◌then◌else◌}
use Rattle.std.specs.Ordering.{match_ordering}
use Rattle.std.specs.Cmp.Lexicographic.{slice_cmp}
use Rattle.std.proofs.lemmas.Bool.{true≢false}
use Rattle.std.proofs.lemmas.Map.Text.{is_eq-slice_cmp}
use Rattle.std.proofs.lemmas.Slice.Eq.{bytes_eq-Decides}
use Rattle.serde_json.specs.Data.{Data, Members, no_members, member, put, string}
use Rattle.serde_json.specs.Find.{get_member}
use Rattle.serde_json.proofs.Views.{get_member-put, get_member-put_other}
use Rattle.base_json.specs.Members.{lent_view}
use Rattle.base_json.specs.declared.lent_value.LentValue.{LentValue}
use Rattle.base_json.specs.declared.three_quoted.ThreeQuoted.{ThreeQuoted}
use Rattle.cedar_conform_values.specs.Objects.{are_only}
use Rattle.cedar_conform.specs.declared.fields.Fields.{Fields}
use Rattle.cedar_conform.specs.declared.fields_with_entities.FieldsWithEntities.{FieldsWithEntities}
use Rattle.cedar_conform.specs.Private.Fields.{AreFieldsOf}
use Rattle.cedar_conform.specs.Private.WithEntities.{AreFieldsWith, begun_with}
use Rattle.cedar_conform.specs.Requests.{is_request_key}
use Rattle.cedar_conform.specs.RequestsWithEntities.{members_without}
use Rattle.cedar_conform.proofs.FieldLemmas.{apart, no_fields, three_put}
use Rattle.cedar_conform_values.proofs.OnlyKeys.{are_only-put}

-- ---- another key is passed over

either : (o : Ordering) (a b : Option Data) → is_eq o ≡ false → match_ordering o a b a ≡ a
either Less a b e = refl
either Equal a b e = absurd (true≢false e)
either Greater a b e = refl

differ : (xs ys : List ℕ) (b : Bool) → bytes_eq xs ys ≡ b → (xs ≡ ys → ⊥) → b ≡ false
differ xs ys true e other = absurd (other ((bytes_eq-Decides xs ys).0 e))
differ xs ys false e other = refl

passed : (q k : List ℕ) (d : Data) (ms : Members) → (q ≡ k → ⊥) → get_member q (member k d ms) ≡ get_member q ms
passed q k d ms other = either (slice_cmp nat_cmp q k) _ _ (is_eq-slice_cmp q k ∙ differ q k _ refl other)

-- ---- members without a key

module _ (k : List ℕ) where
  get_at : (b : Bool) (q l : List ℕ) (e : Data) (ms : Members) → bytes_eq l k ≡ b → (q ≡ k → ⊥) → get_member q (members_without k ms) ≡ get_member q ms
      → get_member q (if b then members_without k ms else member l e (members_without k ms)) ≡ get_member q (member l e ms)
  get_at true q l e ms is other later = later ∙ sym (passed q l e ms (λ h. other (h ∙ (bytes_eq-Decides l k).0 is)))
  get_at false q l e ms is other later = ap (λ o. match_ordering (slice_cmp nat_cmp q l) o (Some e) o) later

  -- the other keys keep their values
  pub get_without : (q : List ℕ) (ms : Members) → (q ≡ k → ⊥) → get_member q (members_without k ms) ≡ get_member q ms
  get_without q no_members other = refl
  get_without q (member l e ms) other = get_at (bytes_eq l k) q l e ms refl other (get_without q ms other)

  module _ (may : List ℕ → Bool) where
    abbrev with_key : List ℕ → Bool
    with_key q = bytes_eq q k || may q

    only_at : (b : Bool) (l : List ℕ) (e : Data) (ms : Members) → are_only may (members_without k ms) ≡ are_only with_key ms
        → are_only may (if b then members_without k ms else member l e (members_without k ms)) ≡ (if b || may l then are_only with_key ms else false)
    only_at true l e ms later = later
    only_at false l e ms later = ap (λ c. if may l then c else false) later

    -- their keys are allowed where all are, but for the key
    only_without : (ms : Members) → are_only may (members_without k ms) ≡ are_only with_key ms
    only_without no_members = refl
    only_without (member l e ms) = only_at (bytes_eq l k) l e ms (only_without ms)

    only_put : (q : List ℕ) (d : Data) (ms : Members) → are_only may (members_without k (put q d ms)) ≡ (if with_key q then are_only may (members_without k ms) else false)
    only_put q d ms = only_without (put q d ms) ∙ are_only-put with_key q d ms ∙ ap (λ c. if with_key q then c else false) (sym (only_without ms))

  none_at : (b : Bool) (l : List ℕ) (e : Data) (ms : Members) → bytes_eq l k ≡ b → get_member k (member l e ms) ≡ None → b ≡ false
  none_at true l e ms is none =
      let found : get_member k (member l e ms) ≡ Some e = ap (λ (o : Ordering). match_ordering o (get_member k ms) (Some e) (get_member k ms)) (tied k l is) in
      absurd (none_is_some e (sym none ∙ found))
    where
      equal : (o : Ordering) → is_eq o ≡ true → o ≡ Equal
      equal Less e = absurd (true≢false (sym e))
      equal Equal e = refl
      equal Greater e = absurd (true≢false (sym e))

      tied : (k l : List ℕ) → bytes_eq l k ≡ true → slice_cmp nat_cmp k l ≡ Equal
      tied k l is = equal (slice_cmp nat_cmp k l) (is_eq-slice_cmp k l ∙ (bytes_eq-Decides k l).1 (sym ((bytes_eq-Decides l k).0 is)))

      none_is_some : (e : Data) → None ≡ Some e → ⊥
      none_is_some e h = absurd (cc)
  none_at false l e ms is none = refl

  -- a key that is absent leaves all members
  pub without_none : (ms : Members) → get_member k ms ≡ None → members_without k ms ≡ ms
  without_none no_members none = refl
  without_none (member l e ms) none =
      let other : bytes_eq l k ≡ false = none_at (bytes_eq l k) l e ms refl none in
      let later = sym (passed k l e ms (λ h. true≢false (sym ((bytes_eq-Decides l k).1 (sym h)) ∙ other))) ∙ none in
      ap (λ (b : Bool). if b then members_without k ms else member l e (members_without k ms)) other ∙ ap (λ (xs : Members). member l e xs) (without_none ms later)

-- ---- the same values

abbrev key : List ℕ
key = codes "entities"

same_fields : (ms ns : Members) (f : Fields) → ((q : List ℕ) → (q ≡ key → ⊥) → get_member q ns ≡ get_member q ms) → are_only is_request_key ns ≡ are_only is_request_key ms → AreFieldsOf ms f → AreFieldsOf ns f
same_fields ms ns f same only are = record {
  principal = same (codes "principal") (apart (codes "principal") key refl) ∙ are.principal;
  action = same (codes "action") (apart (codes "action") key refl) ∙ are.action;
  resource = same (codes "resource") (apart (codes "resource") key refl) ∙ are.resource;
  context = same (codes "context") (apart (codes "context") key refl) ∙ are.context;
  known = only ∙ are.known;
}

-- ---- a member more

module _ (k : List ℕ) (v : LentValue) (ms : Members) (f : FieldsWithEntities) (are : AreFieldsWith ms f) where
  abbrev d : Data
  d = lent_view v

  abbrev rest : Members
  rest = members_without key ms

  put_same : (q : List ℕ) → (q ≡ key → ⊥) → k ≡ key → get_member q (members_without key (put k d ms)) ≡ get_member q rest
  put_same q other is = get_without key q (put k d ms) other ∙ get_member-put_other q k d ms (λ h. other (h ∙ is)) ∙ sym (get_without key q ms other)

  only_same : k ≡ key → are_only is_request_key (members_without key (put k d ms)) ≡ are_only is_request_key rest
  only_same is =
      let known : bytes_eq k key ≡ true = (bytes_eq-Decides k key).1 is in
      only_put key is_request_key k d ms ∙ ap (λ (b : Bool). if b || is_request_key k then are_only is_request_key rest else false) known

  pub entities_put : k ≡ key → AreFieldsWith (put k d ms) (record { request = f.request; entities = Some v })
  entities_put is = record {
    request = same_fields rest (members_without key (put k d ms)) f.request (λ q other. put_same q other is) (only_same is) are.request;
    entities = ap (λ (x : List ℕ). get_member x (put k d ms)) (sym is) ∙ get_member-put k d ms;
  }

  put_at : (b : Bool) (q : List ℕ) → bytes_eq q k ≡ b → (q ≡ key → ⊥) → get_member q (put k d ms) ≡ get_member q (put k d rest)
  put_at true q is other =
      let same : q ≡ k = (bytes_eq-Decides q k).0 is in
      subst (λ (x : List ℕ). get_member x (put k d ms) ≡ get_member x (put k d rest)) (sym same) (get_member-put k d ms ∙ sym (get_member-put k d rest))
  put_at false q is other =
      get_member-put_other q k d ms (apart q k is) ∙ sym (get_without key q ms other) ∙ sym (get_member-put_other q k d rest (apart q k is))

  pub other_put : bytes_eq k key ≡ false → (g : Fields) → AreFieldsOf (put k d rest) g → AreFieldsWith (put k d ms) (record { request = g; entities = f.entities })
  other_put other g h = record {
    request =
        same_fields (put k d rest) (members_without key (put k d ms)) g (λ q n. get_without key q (put k d ms) n ∙ put_at (bytes_eq q k) q refl n)
        (only_put key is_request_key k d ms ∙ ap (λ (b : Bool). if b || is_request_key k then are_only is_request_key rest else false) other ∙ sym (are_only-put is_request_key k d rest)) h;
    entities = get_member-put_other key k d ms (λ e. apart k key other (sym e)) ∙ are.entities;
  }

-- ---- three strings

pub no_fields_with : AreFieldsWith no_members (begun_with None)
no_fields_with = record { request = no_fields; entities = refl }

pub three_put_with : (v : ThreeQuoted) → AreFieldsWith (put (codes "resource") (string v.third) (put (codes "action") (string v.second) (put (codes "principal") (string v.first) no_members))) (begun_with (Some v))
three_put_with v = record { request = three_put v; entities = refl }
