-- The values at the keys of a request, a member at a time.
use Rattle.std.proofs.Common.{◌≡◌, ℕ, true, false, inl, inr, List, Option, Some, None, bytes_eq, refl, sym, ap, subst, ◌∙◌}
use Rattle.std.specs.Prelude.{codes, if◌then◌else◌, MatchOption}
use Rattle.std.proofs.lemmas.Bool.{false≢true}
use Rattle.std.proofs.lemmas.Slice.Eq.{bytes_eq-Decides}
use Rattle.serde_json.specs.Data.{Data, Members, no_members, object, put, string}
use Rattle.serde_json.specs.Find.{get_member}
use Rattle.serde_json.proofs.Views.{get_member-put, get_member-put_other}
use Rattle.base_json.specs.Members.{lent_view}
use Rattle.base_json.specs.declared.lent_value.LentValue.{LentValue}
use Rattle.base_json.specs.declared.lent_value.LentValue.TheVariants.{Quoted}
use Rattle.base_json.specs.declared.three_quoted.ThreeQuoted.{ThreeQuoted}
use Rattle.cedar_value.specs.declared.uid.Uid.{Uid}
use Rattle.cedar_conform_values.specs.Objects.{are_only}
use Rattle.cedar_conform_values.proofs.OnlyKeys.{are_only-put}
use Rattle.cedar_conform_values.specs.WrittenUids.{WritesUid}
use Rattle.cedar_conform.specs.declared.fields.Fields.{Fields}
use Rattle.cedar_conform.specs.declared.request.RequestUids.{RequestUids}
use Rattle.cedar_conform.specs.Private.Fields.{AreFieldsOf, AreWritten, LacksIn, LacksOne, quoted_fields}
use Rattle.cedar_conform.specs.Requests.{IsShapeless, Names, is_request_key}

-- ---- a member more

pub apart : (a b : List ℕ) → bytes_eq a b ≡ false → a ≡ b → ⊥
apart a b f e = false≢true (sym f ∙ (bytes_eq-Decides a b).1 e)

module _ (k : List ℕ) (v : LentValue) (ms : Members) (f : Fields) (are : AreFieldsOf ms f) where
  abbrev d : Data
  d = lent_view v

  here : (q : List ℕ) → k ≡ q → get_member q (put k d ms) ≡ Some d
  here q is = ap (λ (x : List ℕ). get_member x (put k d ms)) (sym is) ∙ get_member-put k d ms

  elsewhere : (q name : List ℕ) → bytes_eq q name ≡ false → k ≡ name → get_member q (put k d ms) ≡ get_member q ms
  elsewhere q name other is = get_member-put_other q k d ms (λ e. apart q name other (e ∙ is))

  still_known : (name : List ℕ) → is_request_key name ≡ true → k ≡ name → are_only is_request_key (put k d ms) ≡ f.are_known
  still_known name key is = are_only-put is_request_key k d ms ∙ ap (λ b. if b then are_only is_request_key ms else false) (ap is_request_key is ∙ key) ∙ are.known

  pub principal_put : k ≡ codes "principal" → AreFieldsOf (put k d ms) (record { principal = Some v; action = f.action; resource = f.resource; context = f.context; are_known = f.are_known })
  unfolding is_request_key
  principal_put is = record {
    principal = here (codes "principal") is;
    action = elsewhere (codes "action") (codes "principal") refl is ∙ are.action;
    resource = elsewhere (codes "resource") (codes "principal") refl is ∙ are.resource;
    context = elsewhere (codes "context") (codes "principal") refl is ∙ are.context;
    known = still_known (codes "principal") refl is;
  }

  pub action_put : k ≡ codes "action" → AreFieldsOf (put k d ms) (record { principal = f.principal; action = Some v; resource = f.resource; context = f.context; are_known = f.are_known })
  unfolding is_request_key
  action_put is = record {
    principal = elsewhere (codes "principal") (codes "action") refl is ∙ are.principal;
    action = here (codes "action") is;
    resource = elsewhere (codes "resource") (codes "action") refl is ∙ are.resource;
    context = elsewhere (codes "context") (codes "action") refl is ∙ are.context;
    known = still_known (codes "action") refl is;
  }

  pub resource_put : k ≡ codes "resource" → AreFieldsOf (put k d ms) (record { principal = f.principal; action = f.action; resource = Some v; context = f.context; are_known = f.are_known })
  unfolding is_request_key
  resource_put is = record {
    principal = elsewhere (codes "principal") (codes "resource") refl is ∙ are.principal;
    action = elsewhere (codes "action") (codes "resource") refl is ∙ are.action;
    resource = here (codes "resource") is;
    context = elsewhere (codes "context") (codes "resource") refl is ∙ are.context;
    known = still_known (codes "resource") refl is;
  }

  pub context_put : k ≡ codes "context" → AreFieldsOf (put k d ms) (record { principal = f.principal; action = f.action; resource = f.resource; context = Some v; are_known = f.are_known })
  unfolding is_request_key
  context_put is = record {
    principal = elsewhere (codes "principal") (codes "context") refl is ∙ are.principal;
    action = elsewhere (codes "action") (codes "context") refl is ∙ are.action;
    resource = elsewhere (codes "resource") (codes "context") refl is ∙ are.resource;
    context = here (codes "context") is;
    known = still_known (codes "context") refl is;
  }

  beside : (q : List ℕ) → bytes_eq k q ≡ false → get_member q (put k d ms) ≡ get_member q ms
  beside q other = get_member-put_other q k d ms (λ e. apart k q other (sym e))

  no_key : bytes_eq k (codes "principal") ≡ false → bytes_eq k (codes "action") ≡ false → bytes_eq k (codes "resource") ≡ false → bytes_eq k (codes "context") ≡ false → is_request_key k ≡ false
  unfolding is_request_key
  no_key p a r c = rw (p, a, r, c)

  pub unknown_put : bytes_eq k (codes "principal") ≡ false → bytes_eq k (codes "action") ≡ false → bytes_eq k (codes "resource") ≡ false → bytes_eq k (codes "context") ≡ false
      → AreFieldsOf (put k d ms) (record { principal = f.principal; action = f.action; resource = f.resource; context = f.context; are_known = false })
  unknown_put p a r c = record {
    principal = beside (codes "principal") p ∙ are.principal;
    action = beside (codes "action") a ∙ are.action;
    resource = beside (codes "resource") r ∙ are.resource;
    context = beside (codes "context") c ∙ are.context;
    known = are_only-put is_request_key k d ms ∙ ap (λ b. if b then are_only is_request_key ms else false) (no_key p a r c);
  }

-- ---- three strings

pub no_fields : AreFieldsOf no_members (record { principal = None; action = None; resource = None; context = None; are_known = true })
no_fields = record { principal = refl; action = refl; resource = refl; context = refl; known = refl }

pub three_put : (v : ThreeQuoted) → AreFieldsOf (put (codes "resource") (string v.third) (put (codes "action") (string v.second) (put (codes "principal") (string v.first) no_members))) (quoted_fields v)
three_put v =
    let first = principal_put (codes "principal") (Quoted v.first) no_members _ no_fields refl in
    let second = action_put (codes "action") (Quoted v.second) _ _ first refl in
    resource_put (codes "resource") (Quoted v.third) _ _ second refl

-- ---- what is written at the keys

abbrev WrittenAt : Option Data → Uid → Type 0
WrittenAt o u = MatchOption o ⊥ (λ found. WritesUid found u)

module _ (ms : Members) (f : Fields) (are : AreFieldsOf ms f) where
  pub names_of : (u : RequestUids) → AreWritten f u → Names (object ms) u.principal u.action u.resource
  names_of u w = record {
    principal_at = subst (λ o. WrittenAt o u.principal) (sym are.principal) w.principal;
    action_at = subst (λ o. WrittenAt o u.action) (sym are.action) w.action;
    resource_at = subst (λ o. WrittenAt o u.resource) (sym are.resource) w.resource;
  }

  pub shapeless_of : LacksOne f → IsShapeless (object ms)
  shapeless_of (inl lacks) = inr (inl (subst LacksIn (sym are.principal) lacks))
  shapeless_of (inr (inl lacks)) = inr (inr (inl (subst LacksIn (sym are.action) lacks)))
  shapeless_of (inr (inr lacks)) = inr (inr (inr (subst LacksIn (sym are.resource) lacks)))
