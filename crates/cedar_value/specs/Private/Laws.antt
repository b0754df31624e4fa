-- The laws of the comparisons.
use Rattle.std.specs.Prelude.{◌≡◌, ℕ, List, true, refl}
use Rattle.std.proofs.Common.{ap, sym, ◌∙◌}
use Rattle.std.proofs.lemmas.Cmp.{on_total, then_total, nat_list_cmp_total, lists_total, tied_itself}
use Rattle.std.specs.Bool.{Decides, one_answer}
use Rattle.std.specs.Cmp.{IsTotalOrder, IsPartialOrder, partial_order_from_agreeing_total}
use Rattle.std.specs.declared.cmp.Ordering.{Ordering}
use Rattle.std.specs.declared.cmp.Ordering.TheVariants.{Less, Equal, Greater}
use Rattle.std.specs.Ordering.{is_eq, as_partial_cmp}
use Rattle.std.specs.Str.{bytes_eq}
use Rattle.std.proofs.lemmas.Slice.Eq.{bytes_eq-Decides}
use Rattle.cedar_value.specs.Datum.{Datum, set, record_of, members_of, fields_of, same, same_uid, same_as_sets, same_as_records}
use Rattle.cedar_value.specs.Private.Equality.{same-Decides, same_uid-Decides}
use Rattle.cedar_value.specs.Order.{datum_cmp, text_cmp, uid_cmp, pair_cmp, members_cmp, pairs_cmp}
use Rattle.cedar_value.specs.Private.Compare.{datum_cmp-sets, datum_cmp-records}
use Rattle.cedar_value.specs.Private.Same.{datum_cmp_total, datum_same, text_same, uid_same}
use Rattle.cedar_value.specs.declared.uid.Uid.{Uid}

equal_from : (o : Ordering) → is_eq o ≡ true → o ≡ Equal
equal_from Less h = cc
equal_from Equal h = refl
equal_from Greater h = cc

-- where the order says that the two are equal, they are
told : {A : Type 0} (R : A → A → Ordering) → IsTotalOrder R → ((a b : A) → R a b ≡ Equal → a ≡ b) → (a b : A) → Decides (is_eq (R a b)) (a ≡ b)
told R total same a b = (λ h. same a b (equal_from (R a b) h), λ p. ap is_eq (ap (R a) (sym p) ∙ tied_itself total a))

pub text_ties : (s t : List ℕ) → bytes_eq s t ≡ is_eq (text_cmp s t)
text_ties s t = one_answer _ _ (bytes_eq-Decides s t) (told text_cmp nat_list_cmp_total text_same s t)

pub text_partial_order : IsPartialOrder bytes_eq (as_partial_cmp text_cmp)
text_partial_order = partial_order_from_agreeing_total text_cmp nat_list_cmp_total (λ x y. refl) text_ties

pub uid_total : IsTotalOrder uid_cmp
uid_total = then_total (on_total (λ (u : Uid). u.ty) nat_list_cmp_total) (on_total (λ (u : Uid). u.id) nat_list_cmp_total)

pub uid_ties : (u v : Uid) → same_uid u v ≡ is_eq (uid_cmp u v)
uid_ties u v = one_answer _ _ (same_uid-Decides u v) (told uid_cmp uid_total uid_same u v)

pub uid_partial_order : IsPartialOrder same_uid (as_partial_cmp uid_cmp)
uid_partial_order = partial_order_from_agreeing_total uid_cmp uid_total (λ x y. refl) uid_ties

pub datum_ties : (d e : Datum) → same d e ≡ is_eq (datum_cmp d e)
datum_ties d e = one_answer _ _ (same-Decides d e) (told datum_cmp datum_cmp_total datum_same d e)

pub datum_partial_order : IsPartialOrder same (as_partial_cmp datum_cmp)
datum_partial_order = partial_order_from_agreeing_total datum_cmp datum_cmp_total (λ x y. refl) datum_ties

pub members_total : IsTotalOrder members_cmp
members_total = lists_total datum_cmp_total

pub members_ties : (ds es : List Datum) → same_as_sets ds es ≡ is_eq (members_cmp ds es)
members_ties ds es = datum_ties (set (members_of ds)) (set (members_of es)) ∙ ap is_eq (datum_cmp-sets ds es)

pub members_partial_order : IsPartialOrder same_as_sets (as_partial_cmp members_cmp)
members_partial_order = partial_order_from_agreeing_total members_cmp members_total (λ x y. refl) members_ties

pub pair_total : IsTotalOrder pair_cmp
pair_total = then_total (on_total (λ (p : List ℕ × Datum). p.0) nat_list_cmp_total) (on_total (λ (p : List ℕ × Datum). p.1) datum_cmp_total)

pub pairs_total : IsTotalOrder pairs_cmp
pairs_total = lists_total pair_total

pub pairs_ties : (ps qs : List (List ℕ × Datum)) → same_as_records ps qs ≡ is_eq (pairs_cmp ps qs)
pairs_ties ps qs = datum_ties (record_of (fields_of ps)) (record_of (fields_of qs)) ∙ ap is_eq (datum_cmp-records ps qs)

pub pairs_partial_order : IsPartialOrder same_as_records (as_partial_cmp pairs_cmp)
pairs_partial_order = partial_order_from_agreeing_total pairs_cmp pairs_total (λ x y. refl) pairs_ties
