-- The test of equality decides it.
use Rattle.std.proofs.Common.{◌≡◌, ℕ, Bool, true, false, ◌&&◌, List, refl, sym, ap, ◌∙◌}
use Rattle.std.specs.Bool.{Decides}
use Rattle.std.specs.Cmp.{IsEquivalence, decided}
use Rattle.std.proofs.lemmas.Cmp.{on_equiv}
use Rattle.std.proofs.lemmas.Bool.Decides.{Decides-int_eq}
use Rattle.std.specs.Str.{bytes_eq}
use Rattle.std.proofs.lemmas.Slice.Eq.{bytes_eq-Decides}
use Rattle.cedar_ext.specs.Private.ExtensionLemmas.{same_extension-Decides}
use Rattle.cedar_value.specs.Datum.{Datum, boolean, long, text, uid, set, record_of, extension, Members, no_members, member, Fields, no_fields, field, same, same_members, same_fields, same_truth, same_uid, members_of, list_of, fields_of, pairs_of, same_as_sets, same_as_records}
use Rattle.cedar_value.specs.Private.Lists.{list_of-members_of, pairs_of-fields_of}
use Rattle.cedar_value.specs.declared.uid.Uid.{Uid}

same_truth-Decides : (a b : Bool) → Decides (same_truth a b) (a ≡ b)
same_truth-Decides true b = (λ e. sym e, λ e. sym e)
same_truth-Decides false true = (λ e. cc, λ e. cc)
same_truth-Decides false false = (λ e. refl, λ e. refl)

both : (a b : Bool) {P Q : Type 0} → Decides a P → Decides b Q → Decides (a && b) (P × Q)
both true b p q = (λ e. (p.0 refl, q.0 e), λ h. q.1 h.1)
both false b p q = (λ e. absurd (cc), λ h. p.1 h.0)

pub same_uid-Decides : (u v : Uid) → Decides (same_uid u v) (u ≡ v)
same_uid-Decides u v =
    let b = both _ _ (bytes_eq-Decides u.ty v.ty) (bytes_eq-Decides u.id v.id) in
    let with_ty : List ℕ → Uid = λ t. record { ty = t; id = u.id } in
    let with_id : List ℕ → Uid = λ i. record { ty = v.ty; id = i } in
    (λ e. let h = b.0 e in ap with_ty h.0 ∙ ap with_id h.1, λ e. b.1 (ap (λ (w : Uid). w.ty) e, ap (λ (w : Uid). w.id) e))

mutual
  pub same-Decides : (x y : Datum) → Decides (same x y) (x ≡ y)
  same-Decides (boolean a) (boolean b) = let d = same_truth-Decides a b in (λ e. ap boolean (d.0 e), λ e. d.1 cc)
  same-Decides (long m) (long n) = let d = Decides-int_eq m n in (λ e. ap long (d.0 e), λ e. d.1 cc)
  same-Decides (text s) (text t) = let d = bytes_eq-Decides s t in (λ e. ap text (d.0 e), λ e. d.1 cc)
  same-Decides (uid u) (uid v) = let d = same_uid-Decides u v in (λ e. ap uid (d.0 e), λ e. d.1 cc)
  same-Decides (set ms) (set ns) = let d = same_members-Decides ms ns in (λ e. ap set (d.0 e), λ e. d.1 cc)
  same-Decides (record_of fs) (record_of gs) = let d = same_fields-Decides fs gs in (λ e. ap record_of (d.0 e), λ e. d.1 cc)
  same-Decides (extension a) (extension b) = let d = same_extension-Decides a b in (λ e. ap extension (d.0 e), λ e. d.1 cc)
  same-Decides _ _ = (λ e. absurd (cc), λ e. absurd (cc))

  pub same_members-Decides : (ms ns : Members) → Decides (same_members ms ns) (ms ≡ ns)
  same_members-Decides no_members no_members = (λ e. refl, λ e. refl)
  same_members-Decides (member d ms) (member e ns) =
      let b = both _ _ (same-Decides d e) (same_members-Decides ms ns) in
      (λ q. let h = b.0 q in λ i. member (h.0 i) (h.1 i), λ q. b.1 (cc, cc))
  same_members-Decides _ _ = (λ e. absurd (cc), λ e. absurd (cc))

  pub same_fields-Decides : (fs gs : Fields) → Decides (same_fields fs gs) (fs ≡ gs)
  same_fields-Decides no_fields no_fields = (λ e. refl, λ e. refl)
  same_fields-Decides (field k d fs) (field l e gs) =
      let b = both _ _ (both _ _ (bytes_eq-Decides k l) (same-Decides d e)) (same_fields-Decides fs gs) in
      (λ q. let h = b.0 q in λ i. field (h.0.0 i) (h.0.1 i) (h.1 i), λ q. b.1 ((cc, cc), cc))
  same_fields-Decides _ _ = (λ e. absurd (cc), λ e. absurd (cc))

pub same_equivalence : IsEquivalence same
same_equivalence = decided same same-Decides

pub text_equivalence : IsEquivalence bytes_eq
text_equivalence = decided bytes_eq bytes_eq-Decides

pub uid_equivalence : IsEquivalence same_uid
uid_equivalence = decided same_uid same_uid-Decides

-- lists of members, and of pairs, are the same where their trees are
pub same_as_sets-Decides : (ds es : List Datum) → Decides (same_as_sets ds es) (ds ≡ es)
same_as_sets-Decides ds es =
    let d = same_members-Decides (members_of ds) (members_of es) in
    (λ e. sym (list_of-members_of ds) ∙ ap list_of (d.0 e) ∙ list_of-members_of es, λ e. d.1 (ap members_of e))

pub same_as_records-Decides : (ps qs : List (List ℕ × Datum)) → Decides (same_as_records ps qs) (ps ≡ qs)
same_as_records-Decides ps qs =
    let d = same_fields-Decides (fields_of ps) (fields_of qs) in
    (λ e. sym (pairs_of-fields_of ps) ∙ ap pairs_of (d.0 e) ∙ pairs_of-fields_of qs, λ e. d.1 (ap fields_of e))

pub members_equivalence : IsEquivalence same_as_sets
members_equivalence = on_equiv members_of (decided same_members same_members-Decides)

pub pairs_equivalence : IsEquivalence same_as_records
pairs_equivalence = on_equiv fields_of (decided same_fields same_fields-Decides)
