-- The premises of soundness can be met: for the examples' schema by
-- a world of a user in a listed team, an admin and a doc, and by a request.
use Rattle.std.proofs.Common.{◌≡◌, ℕ, Bool, true, false, cond, ◌⊎◌, inl, inr, ⊎_elim, List, [], ◌∷◌, Contains, Some, None, unwrap_or, pos, codes, refl, sym, ap, subst, ◌∙◌}
use Rattle.std.specs.Map.{keys_of}
use Rattle.std.specs.Option.{option_map}
use Rattle.std.specs.Str.{bytes_eq}
use Rattle.std.proofs.lemmas.List.Elements.{All-from_recursion}
use Rattle.cedar_value.specs.Datum.{Datum, long, text, uid, same_uid}
use Rattle.cedar_value.specs.Private.Equality.{same_uid-Decides}
use Rattle.cedar_value.specs.World.{World, EntityTree, entry_of, has_entity, parents_of, Below}
use Rattle.cedar_value.specs.Private.Parents.{IsParent}
use Rattle.base_reach.specs.Closure.{one_link, more_links}
use Rattle.cedar_value.specs.declared.uid.Uid.{Uid}
use Rattle.cedar_value.specs.declared.request.Request.{Request}
use Rattle.cedar_schema_spec.specs.declared.environment.Environment.{Environment}
use Rattle.cedar_schema_types.specs.Types.{TypeTree, no_attributes, attribute}
use Rattle.cedar_schema_types.specs.Types as kind
use Rattle.cedar_schema_spec.specs.Descents.{ActionDescends, EntityTypeDescends, TypeDescends}
use Rattle.cedar_schema_spec.specs.WellFormed.{AreTypesApart}
use Rattle.cedar_schema_types.specs.Membership.{MayStand, IsAbsent, Choose, Member}
use Rattle.cedar_schema_spec.specs.Declarations.{IsAction, action_entity, action_entities}
use Rattle.cedar_schema_spec.specs.Conformance.{IsOfSchema, of_type, Conforms, FitsIn}
use Rattle.cedar_schema_spec.specs.Enumerated.{entity_listed}
use Rattle.base_reach.proofs.Listed.{here, there, first_or_later, nowhere}
use Rattle.cedar_schema_spec.proofs.DeclaredTests.{actions_conform}
use Rattle.cedar_check_spec.specs.Soundness.{PremisesAreMetWith}
use Rattle.cedar_check_spec.specs.declared.settings.Settings.{Settings}
use Rattle.cedar_check_law.proofs.Descents.{chain_down}
use Rattle.cedar_check_law.proofs.Reports.{accepted_without_fault}
use Rattle.cedar_check_spec.proofs.Members.{pair_fits}
use Rattle.cedar_check_law.proofs.Rows.{guarded_policy, guarded_everywhere, schema, user_type, admin_type, doc_type, act, deletes, reads, views}

-- ---- the examples' schema

not_type : (n : List ℕ) → n ≡ codes "Action" → Contains (keys_of schema.entities) n → ⊥
not_type n e m = out (subst (λ (x : List ℕ). Contains (keys_of schema.entities) x) e m)
  where
    differ : (a : List ℕ) → bytes_eq (codes "Action") a ≡ false → bytes_eq (codes "Action") (codes "Action") ≡ true → a ≡ codes "Action" → ⊥
    differ a p t d = let c : true ≡ false = sym t ∙ ap (bytes_eq (codes "Action")) (sym d) ∙ p in cc

    out : Contains (keys_of schema.entities) (codes "Action") → ⊥
    out h =
        ⊎_elim (differ (codes "Admin") refl refl) (λ i.
        ⊎_elim (differ (codes "Doc") refl refl) (λ j.
        ⊎_elim (differ (codes "Team") refl refl) (λ k.
        ⊎_elim (differ (codes "User") refl refl) (nowhere (codes "Action"))
        (first_or_later (codes "User") [] (codes "Action") k))
        (first_or_later (codes "Team") (codes "User" ∷ []) (codes "Action") j))
        (first_or_later (codes "Doc") (codes "Team" ∷ codes "User" ∷ []) (codes "Action") i))
        (first_or_later (codes "Admin") (codes "Doc" ∷ codes "Team" ∷ codes "User" ∷ []) (codes "Action") h)

types_apart : AreTypesApart schema
types_apart = All-from_recursion (λ (u : Uid). ¬ Contains (keys_of schema.entities) u.ty) (keys_of schema.actions) (not_type (codes "Action") refl, (not_type (codes "Action") refl, (not_type (codes "Action") refl, tt)))

abbrev named : List ℕ → List ℕ → Uid
named n id = record { ty = n; id = id }

abbrev ann : EntityTree
ann = record { uid = named (codes "User") (codes "ann"); attributes = (codes "age", long (pos 30)) ∷ []; parents = named (codes "Team") (codes "t") ∷ [] }

abbrev eve : EntityTree
eve = record { uid = named (codes "Admin") (codes "eve"); attributes = (codes "level", long (pos 5)) ∷ []; parents = [] }

abbrev doc : EntityTree
doc = record { uid = named (codes "Doc") (codes "d"); attributes = (codes "name", text (codes "a")) ∷ (codes "owner", uid (named (codes "User") (codes "ann"))) ∷ []; parents = [] }

abbrev world : World
world = ann ∷ eve ∷ doc ∷ action_entities schema

abbrev request : Request
request = record { principal = ann.uid; action = act (codes "view"); resource = doc.uid; context = (codes "n", long (pos 0)) ∷ [] }

abbrev environment : Environment
environment = record { action = act (codes "view"); principal = codes "User"; resource = codes "Doc"; context = views.context }

abbrev user_deletes : Environment
user_deletes = record { action = act (codes "delete"); principal = codes "User"; resource = codes "Doc"; context = deletes.context }

abbrev admin_views : Environment
admin_views = record { action = act (codes "view"); principal = codes "Admin"; resource = codes "Doc"; context = views.context }

-- the one key of a record type, which is not required
optional : (k l : List ℕ) (t : TypeTree) (v : Datum) → Member t v → (b : Bool) → Choose b (MayStand false (Member t) (cond b (Some v) None)) (IsAbsent (cond b (Some v) None))
optional k l t v h true = h
optional k l t v h false = tt

ann_fits : IsOfSchema schema ann
ann_fits = of_type {t = user_type.shape} refl (λ k. optional (codes "age") k kind.long (long (pos 30)) tt (bytes_eq (codes "age") k))

eve_fits : IsOfSchema schema eve
eve_fits = of_type {t = admin_type.shape} refl (pair_fits (codes "level") kind.long no_attributes (long (pos 5)) [] tt (λ k. tt))

doc_fits : IsOfSchema schema doc
doc_fits =
    of_type {t = doc_type.shape} refl
    (pair_fits (codes "name") kind.string (attribute (codes "owner") true (kind.entity (codes "User")) no_attributes) (text (codes "a")) ((codes "owner", uid (named (codes "User") (codes "ann"))) ∷ []) tt
    (pair_fits (codes "owner") (kind.entity (codes "User")) no_attributes (uid (named (codes "User") (codes "ann"))) [] refl (λ k. tt)))

entities : (e : EntityTree) → Contains world e → IsOfSchema schema e
entities e m =
    ⊎_elim (λ p. subst (IsOfSchema schema) p ann_fits) (λ i.
    ⊎_elim (λ p. subst (IsOfSchema schema) p eve_fits) (λ j.
    ⊎_elim (λ p. subst (IsOfSchema schema) p doc_fits) ((actions_conform schema).entities e)
    (first_or_later doc (action_entities schema) e j)) (first_or_later eve (doc ∷ action_entities schema) e i)) (first_or_later ann (eve ∷ doc ∷ action_entities schema) e m)

listed : (e : EntityTree) → Contains world e → ¬ IsAction schema e.uid → entity_listed schema e ≡ true
listed e m n =
    ⊎_elim (λ p. subst (λ (x : EntityTree). entity_listed schema x ≡ true) p refl) (λ i.
    ⊎_elim (λ p. subst (λ (x : EntityTree). entity_listed schema x ≡ true) p refl) (λ j.
    ⊎_elim (λ p. subst (λ (x : EntityTree). entity_listed schema x ≡ true) p refl) (λ k. (actions_conform schema).listed e k n)
    (first_or_later doc (action_entities schema) e j)) (first_or_later eve (doc ∷ action_entities schema) e i)) (first_or_later ann (eve ∷ doc ∷ action_entities schema) e m)

-- links: from the user to the team, and from the one action to the other
parent_step : (b : Bool) (e : EntityTree) (w : World) (u p : Uid) → same_uid e.uid u ≡ b → Contains (unwrap_or (option_map (λ x. x.parents) (cond b (Some e) (entry_of w u))) []) p
    → (Contains (parents_of w u) p → (x : EntityTree) × Contains w x × (x.uid ≡ u) × Contains x.parents p) → (x : EntityTree) × Contains (e ∷ w) x × (x.uid ≡ u) × Contains x.parents p
parent_step true e w u p d l rest = (e, here e w, (same_uid-Decides e.uid u).0 d, l)
parent_step false e w u p d l rest = let r = rest l in (r.0, there e w r.0 r.1, r.2, r.3)

parent_listed : (w : World) (u p : Uid) → Contains (parents_of w u) p → (x : EntityTree) × Contains w x × (x.uid ≡ u) × Contains x.parents p
parent_listed [] u p l = absurd (nowhere p l)
parent_listed (e ∷ w) u p l = parent_step (same_uid e.uid u) e w u p refl l (parent_listed w u p)

Linked : Uid → Uid → Uid → Uid → Type 0
Linked u p x y = (x ≡ u) × (y ≡ p)

no_link : (e x : EntityTree) (u p : Uid) (C : Type 0) → e ≡ x → e.parents ≡ [] → Contains x.parents p → C
no_link e x u p C s n l = absurd (nowhere p (subst (λ ps. Contains ps p) (ap (λ (y : EntityTree). y.parents) (sym s) ∙ n) l))

only_link : (e x : EntityTree) (u p y : Uid) → e ≡ x → e.parents ≡ y ∷ [] → x.uid ≡ u → Contains x.parents p → Linked u p e.uid y
unfolding Linked
only_link e x u p y s n is l =
    let at : Contains (y ∷ []) p = subst (λ ps. Contains ps p) (ap (λ (z : EntityTree). z.parents) (sym s) ∙ n) l in
    (ap (λ (z : EntityTree). z.uid) s ∙ is, ⊎_elim (λ d. d) (λ r. absurd (nowhere p r)) (first_or_later y [] p at))

abbrev team : Uid
team = named (codes "Team") (codes "t")

action_cases : (u p : Uid) (x : EntityTree) → Contains (action_entities schema) x → x.uid ≡ u → Contains x.parents p → Linked u p (act (codes "view")) (act (codes "read"))
action_cases u p x m is l =
    ⊎_elim (λ d. no_link (action_entity (act (codes "delete"), deletes)) x u p (Linked u p (act (codes "view")) (act (codes "read"))) d refl l) (λ i.
    ⊎_elim (λ d. no_link (action_entity (act (codes "read"), reads)) x u p (Linked u p (act (codes "view")) (act (codes "read"))) d refl l) (λ j.
    ⊎_elim (λ d. only_link (action_entity (act (codes "view"), views)) x u p (act (codes "read")) d refl is l) (λ k. absurd (nowhere x k))
    (first_or_later (action_entity (act (codes "view"), views)) [] x j))
    (first_or_later (action_entity (act (codes "read"), reads)) (action_entity (act (codes "view"), views) ∷ []) x i))
    (first_or_later (action_entity (act (codes "delete"), deletes)) (action_entity (act (codes "read"), reads) ∷ action_entity (act (codes "view"), views) ∷ []) x m)

link_cases : (u p : Uid) → IsParent world u p → Linked u p ann.uid team ⊎ Linked u p (act (codes "view")) (act (codes "read"))
link_cases u p l =
    let (x, m, is, at) = parent_listed world u p l in
    ⊎_elim (λ d. inl (only_link ann x u p team d refl is at)) (λ i.
    ⊎_elim (λ d. no_link eve x u p (Linked u p ann.uid team ⊎ Linked u p (act (codes "view")) (act (codes "read"))) d refl at) (λ j.
    ⊎_elim (λ d. no_link doc x u p (Linked u p ann.uid team ⊎ Linked u p (act (codes "view")) (act (codes "read"))) d refl at) (λ k. inr (action_cases u p x k is at))
    (first_or_later doc (action_entities schema) x j)) (first_or_later eve (doc ∷ action_entities schema) x i)) (first_or_later ann (eve ∷ doc ∷ action_entities schema) x m)

-- nothing is above the team or the other action
ends : (p v : Uid) → (team ≡ p) ⊎ (act (codes "read") ≡ p) → Below world p v → ⊥
ends p v m (one_link l) = ⊎_elim (λ d. nowhere v (subst (λ (x : Uid). Contains (parents_of world x) v) (sym d) l)) (λ d. nowhere v (subst (λ (x : Uid). Contains (parents_of world x) v) (sym d) l)) m
ends p v m (more_links {p = r} l rest) = ⊎_elim (λ d. nowhere r (subst (λ (x : Uid). Contains (parents_of world x) r) (sym d) l)) (λ d. nowhere r (subst (λ (x : Uid). Contains (parents_of world x) r) (sym d) l)) m

second : (u p : Uid) → Linked u p ann.uid team ⊎ Linked u p (act (codes "view")) (act (codes "read")) → (team ≡ p) ⊎ (act (codes "read") ≡ p)
unfolding Linked
second u p (inl d) = inl d.1
second u p (inr d) = inr d.1

below_cases : (u v : Uid) → Below world u v → Linked u v ann.uid team ⊎ Linked u v (act (codes "view")) (act (codes "read"))
below_cases u v (one_link l) = link_cases u v l
below_cases u v (more_links {p = p} l rest) = absurd (ends p v (second u p (link_cases u p l)) rest)

user_descends : EntityTypeDescends schema (codes "User") (codes "Team")
user_descends = one_link (here (codes "Team") [])

view_descends : ActionDescends schema (act (codes "view")) (act (codes "read"))
view_descends = one_link (here (act (codes "read")) [])

is_view : IsAction schema (act (codes "view"))
is_view = there (act (codes "delete")) (act (codes "read") ∷ act (codes "view") ∷ []) (act (codes "view")) (there (act (codes "read")) (act (codes "view") ∷ []) (act (codes "view")) (here (act (codes "view")) []))

above : (u v : Uid) → ¬ IsAction schema u → Below world u v → TypeDescends schema u.ty v.ty
unfolding Linked
above u v n b =
    ⊎_elim
    (λ d. subst (λ (x : Uid). TypeDescends schema u.ty x.ty) d.1 (subst (λ (x : Uid). TypeDescends schema x.ty (codes "Team")) d.0 (inl user_descends)))
    (λ d. absurd (n (subst (IsAction schema) d.0 is_view)))
    (below_cases u v b)

present : (u : Uid) → IsAction schema u → has_entity world u ≡ true
present u m =
    ⊎_elim (λ d. subst (λ (x : Uid). has_entity world x ≡ true) d refl) (λ i.
    ⊎_elim (λ d. subst (λ (x : Uid). has_entity world x ≡ true) d refl) (λ j.
    ⊎_elim (λ d. subst (λ (x : Uid). has_entity world x ≡ true) d refl) (λ k. absurd (nowhere u k))
    (first_or_later (act (codes "view")) [] u j)) (first_or_later (act (codes "read")) (act (codes "view") ∷ []) u i)) (first_or_later (act (codes "delete")) (act (codes "read") ∷ act (codes "view") ∷ []) u m)

ann_no_action : IsAction schema ann.uid → ⊥
ann_no_action m =
    ⊎_elim (differ (act (codes "delete")) refl) (λ i.
    ⊎_elim (differ (act (codes "read")) refl) (λ j.
    ⊎_elim (differ (act (codes "view")) refl) (nowhere ann.uid)
    (first_or_later (act (codes "view")) [] ann.uid j)) (first_or_later (act (codes "read")) (act (codes "view") ∷ []) ann.uid i)) (first_or_later (act (codes "delete")) (act (codes "read") ∷ act (codes "view") ∷ []) ann.uid m)
  where
    differ : (u : Uid) → same_uid u ann.uid ≡ false → u ≡ ann.uid → ⊥
    differ u e d = let t = (same_uid-Decides u ann.uid).1 d in let c : true ≡ false = sym t ∙ e in cc

actions_below : (u v : Uid) → IsAction schema u → Below world u v → ActionDescends schema u v
unfolding Linked
actions_below u v m b =
    ⊎_elim
    (λ d. absurd (ann_no_action (subst (IsAction schema) (sym d.0) m)))
    (λ d. subst (λ (x : Uid). ActionDescends schema u x) d.1 (subst (λ (x : Uid). ActionDescends schema x (act (codes "read"))) d.0 view_descends))
    (below_cases u v b)

view_below : Below world (act (codes "view")) (act (codes "read"))
view_below = one_link (here (act (codes "read")) [])

no_more_above : (v : Uid) → Below (action_entities schema) (act (codes "read")) v → ⊥
no_more_above v (one_link l) = nowhere v l
no_more_above v (more_links {p = p} l rest) = nowhere p l

chain_cases : (u v : Uid) → Below (action_entities schema) u v → Linked u v (act (codes "view")) (act (codes "read"))
unfolding Linked
chain_cases u v (one_link l) = let (x, m, is, at) = parent_listed (action_entities schema) u v l in action_cases u v x m is at
chain_cases u v (more_links {p = p} l rest) =
    let (x, m, is, at) = parent_listed (action_entities schema) u p l in
    let d = action_cases u p x m is at in
    absurd (no_more_above v (subst (λ (y : Uid). Below (action_entities schema) y v) (sym d.1) rest))

actions_above : (u v : Uid) → ActionDescends schema u v → Below world u v
unfolding Linked
actions_above u v d =
    let c = chain_cases u v (chain_down schema d) in
    subst (λ (x : Uid). Below world u x) c.1 (subst (λ (x : Uid). Below world x (act (codes "read"))) c.0 view_below)

pub conforms : Conforms schema world
conforms = record {
  entities = entities;
  listed = listed;
  above = above;
  present = present;
  actions = λ u v m. (actions_below u v m, actions_above u v);
}

pub fits : FitsIn schema environment request
fits = record {
  listed = there user_deletes (admin_views ∷ environment ∷ []) environment (there admin_views (environment ∷ []) environment (here environment []));
  principal = refl;
  action = refl;
  resource = refl;
  context = pair_fits (codes "n") kind.long no_attributes (long (pos 0)) [] tt (λ k. tt);
  uids = refl;
}

pub premises_are_met : (settings : Settings) → PremisesAreMetWith settings
premises_are_met settings = record {
  schema = schema;
  environment = environment;
  request = request;
  world = world;
  policy = guarded_policy;
  apart = types_apart;
  conforms = conforms;
  fits = fits;
  accepted = accepted_without_fault settings schema guarded_policy (guarded_everywhere settings);
}
