-- Lemmas on places of a report.
use Rattle.std.proofs.Common.{◌≡◌, ◌≢◌, ℕ, ◌<◌, ◌-◌, Bool, true, false, List, Option, None, Some, inl, inr, refl, sym, ap, subst, ◌∙◌, arith, eq-eqb, eqb-true}
use Rattle.std.specs.Prelude.{nat_eq, if◌then◌else◌}
use Rattle.cedar_ast.specs.PolicySetTree.{PolicySetTree}
use Rattle.cedar_schema_spec.specs.SchemaTree.{SchemaTree}
use Rattle.cedar_check_spec.specs.declared.settings.Settings.{Settings}
use Rattle.cedar_files.specs.ReportPart.{EndsReport, GoesOnReport, IsNextPart, IsReportPart, limit_after}
use Rattle.cedar_files.specs.Roles.{Holdings}
use Rattle.cedar_files.specs.Validation.{Hold}
use Rattle.cedar_files.specs.declared.report_parts.ReportPart.{ReportPart}
use Rattle.cedar_files.specs.declared.report_place.ReportPlace.{ReportPlace as Place}
use Rattle.cedar_c.specs.ReportPlaces.{HaveLastPart, HavePart, IsPartReported, limit_of, place_of}
use Rattle.cedar_c.specs.declared.report_place.ReportPlace.{ReportPlace}

not-last : (x n : ℕ) (b : Bool) → nat_eq x 18446744073709551615 ≡ b → x < 18446744073709551616 → limit_after (if b then None else Some x) n ≡ Some 18446744073709551615 → ⊥
not-last x n true e lt h = cc
not-last x n false e lt h =
    let last : x - n ≡ 18446744073709551615 = cc in
    let same : x ≡ 18446744073709551615 = omega arith in
    let wrong : true ≡ false = sym (eq-eqb x 18446744073709551615 same) ∙ e in
    cc

-- no place that a part leads to has the limit that is none
pub limited : (settings : Settings) (s : SchemaTree) (set : PolicySetTree) (from : ReportPlace) (to : Place) (text : List ℕ) → from.lines < 18446744073709551616
    → IsReportPart settings s set.policies (place_of from) to text → to.lines ≢ Some 18446744073709551615
limited settings s set from to text lt h = λ e. not-last from.lines _ (nat_eq from.lines 18446744073709551615) refl lt (sym h.limit_is ∙ e)

limit_is : (n : ℕ) (b : Bool) → nat_eq n 18446744073709551615 ≡ b → (Some n ≡ Some 18446744073709551615 → ⊥) → (if b then None else Some n) ≡ Some n
limit_is n true e h = absurd (h (ap Some (eqb-true n 18446744073709551615 e)))
limit_is n false e h = refl

number_with : (limit : Option ℕ) → limit ≢ Some 18446744073709551615 → (n : ℕ) × (limit_of n ≡ limit)
number_with None h = (18446744073709551615, refl)
number_with (Some n) h = (n, limit_is n (nat_eq n 18446744073709551615) refl h)

-- such a place is one that C is given
pub placed : (to : Place) → to.lines ≢ Some 18446744073709551615 → (place : ReportPlace) × (place_of place ≡ to)
placed to h =
    let n = number_with to.lines h in
    (record { policy = to.policy; faults = to.faults; warnings = to.warnings; lines = n.0 }, ap (λ (l : Option ℕ). record to { lines = l }) n.1)

module _ (settings : Settings) (holds : Holdings) (s : SchemaTree) (set : PolicySetTree) (hold : Hold settings.language holds s set) (from : ReportPlace) where
  -- a part that is given, where the place is moved on
  pub has-part : (to : ReportPlace) (place : Place) (text told : List ℕ) → place_of to ≡ place → told ≡ text → GoesOnReport settings s set.policies (place_of from) place text
      → HavePart settings holds from to told
  has-part to place text told e t h = record {
    schema = s;
    policies = set;
    hold = hold;
    goes_on = subst (GoesOnReport settings s set.policies (place_of from) (place_of to)) (sym t) (subst (λ (p : Place). GoesOnReport settings s set.policies (place_of from) p text) (sym e) h);
  }

  pub has-last-part : (to : ReportPlace) (place : Place) (text told : List ℕ) → place_of to ≡ place → told ≡ text → EndsReport settings s set.policies (place_of from) place text
      → HaveLastPart settings holds from to told
  has-last-part to place text told e t h = record {
    schema = s;
    policies = set;
    hold = hold;
    ends = subst (EndsReport settings s set.policies (place_of from) (place_of to)) (sym t) (subst (λ (p : Place). EndsReport settings s set.policies (place_of from) p text) (sym e) h);
  }

  told_by : (part : ReportPart) (b : Bool) → part.has_ended ≡ b → from.lines < 18446744073709551616 → IsNextPart settings s set.policies (place_of from) part
      → IsPartReported settings holds from part.text.items
  told_by part true e lt h =
      let ends = h.ends e in
      let to = placed part.place (limited settings s set from part.place ends.part lt ends.is_part) in
      inr (inl (to.0, has-last-part to.0 part.place part.text.items part.text.items to.1 refl ends))
  told_by part false e lt h =
      let on = h.goes_on e in
      let to = placed part.place (limited settings s set from part.place part.text.items lt on.is_part) in
      inl (to.0, has-part to.0 part.place part.text.items part.text.items to.1 refl on)

  -- the next part is reported
  pub next-told : (part : ReportPart) → from.lines < 18446744073709551616 → IsNextPart settings s set.policies (place_of from) part → IsPartReported settings holds from part.text.items
  next-told part lt h = told_by part part.has_ended refl lt h
