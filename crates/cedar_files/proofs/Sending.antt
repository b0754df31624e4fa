-- Lemmas on a report that is sent as it is written.
use Rattle.std.proofs.Common.{◌≡◌, ℕ, List, [], ◌∷◌, ◌++◌, length, Option, None, Result, Err, sym, ap, ap₂, subst, ◌∙◌, append_assoc, append-nil}
use Rattle.std.specs.Prelude.{IfErr}
use Rattle.std.specs.Io.KnownBytes.{Appends}
use Rattle.std.proofs.KnownBytes.{Appends-nil, Appends-trans}
use Rattle.base_lines.specs.AnswerText.{Writes}
use Rattle.base_lines.specs.Lines.{line_feed}
use Rattle.cedar_ast.specs.PolicySetTree.{PolicySetTree}
use Rattle.cedar_ast.specs.PolicyTree.{PolicyTree}
use Rattle.cedar_schema_spec.specs.SchemaTree.{SchemaTree}
use Rattle.cedar_check_spec.specs.declared.settings.Settings.{Settings}
use Rattle.cedar_files.specs.ReportPart.{IsReportPart, beginning, totals_text}
use Rattle.cedar_files.specs.ReportText.{IsReportText, TellsEach, totals_line}
use Rattle.cedar_files.specs.Validation.{BeginsReport}
use Rattle.cedar_files.specs.Private.Reporting.{AppendsPart, IsSentTo}
use Rattle.cedar_files.specs.Private.Telling.{AppendsLines}
use Rattle.cedar_files.specs.declared.ending.End.{End}
use Rattle.cedar_files.specs.declared.report_place.ReportPlace.{ReportPlace}
use Rattle.cedar_files.proofs.Parts.{begin-part, begun, join-on, whole}

-- what holds at an end holds at a refusal that is this end
pub broken-at : {T : Type 0} (P : End → Type 0) (e y : End) (r : Result T End) → r ≡ Err y → y ≡ e → P e → IfErr r P
broken-at {T} P e y r h k p = subst (λ (x : Result T End). IfErr x P) (sym h) (subst P (sym k) p)

-- the line of totals is their text
pub totals-are : (place : ReportPlace) (told : List ℕ) → TellsEach (totals_line place.faults place.warnings ∷ []) told → told ≡ totals_text place
totals-are place told h = h.3 ∙ ap₂ (λ (a b : List ℕ). a ++ line_feed ∷ b) h.2 h.4

module _ (settings : Settings) (s : SchemaTree) (ps : List PolicyTree) where
  pub sent-none : (place : ReportPlace) (old : Option (List ℕ)) (text : List ℕ) → place ≡ beginning None → text ≡ [] → IsSentTo settings s ps place old old text
  sent-none place old text b e = ([], Appends-nil old, begin-part settings s ps place text b e)

  pub sent-more : (a b : ReportPlace) (old now : Option (List ℕ)) (waits waits' : List ℕ) → IsSentTo settings s ps a old now waits
      → AppendsPart settings s ps a b waits waits' → IsSentTo settings s ps b old now waits'
  sent-more a b old now waits waits' h k = (h.0, h.1, join-on settings s ps (beginning None) a b h.0 waits waits' h.2 k)

  pub sent-flushed : (a : ReportPlace) (old mid new : Option (List ℕ)) (waits waits' : List ℕ) → IsSentTo settings s ps a old mid waits
      → Appends mid new waits → waits' ≡ [] → IsSentTo settings s ps a old new waits'
  sent-flushed a old mid new waits waits' h k e =
      (h.0 ++ waits, Appends-trans old mid new h.0 waits h.1 k, subst (IsReportPart settings s ps (beginning None) a) (sym (append-nil (h.0 ++ waits)) ∙ ap (λ (t : List ℕ). (h.0 ++ waits) ++ t) (sym e)) h.2)

  pub sent-begun : (a : ReportPlace) (old new : Option (List ℕ)) (waits : List ℕ) → IsSentTo settings s ps a old new waits → Writes old new (BeginsReport settings s ps)
  sent-begun a old new waits h = (h.0, h.1, begun settings s ps a h.0 waits h.2)

  pub sent-cut : (a : ReportPlace) (old mid new : Option (List ℕ)) (waits : List ℕ) → IsSentTo settings s ps a old mid waits
      → Writes mid new (λ (text : List ℕ). (more : List ℕ) × (waits ≡ text ++ more)) → Writes old new (BeginsReport settings s ps)
  sent-cut a old mid new waits h k = (
    h.0 ++ k.0,
    Appends-trans old mid new h.0 k.0 h.1 k.1,
    begun settings s ps a (h.0 ++ k.0) k.2.0 (subst (IsReportPart settings s ps (beginning None) a) (ap (λ (t : List ℕ). h.0 ++ t) k.2.1 ∙ sym (append_assoc h.0 k.0 k.2.0)) h.2),
  )

  pub is-whole : (a : ReportPlace) (sent waits all : List ℕ) → IsReportPart settings s ps (beginning None) a (sent ++ waits) → a.policy ≡ length ps
      → AppendsLines (totals_line a.faults a.warnings ∷ []) waits all → IsReportText settings s ps (sent ++ all)
  is-whole a sent waits all h e k =
      subst (IsReportText settings s ps)
      (append_assoc sent waits (totals_text a) ∙ ap (λ (t : List ℕ). sent ++ t) (ap (λ (t : List ℕ). waits ++ t) (sym (totals-are a k.0 k.1)) ∙ sym k.2))
      (whole settings s ps a (sent ++ waits) h e)

  pub sent-whole : (a : ReportPlace) (old mid new : Option (List ℕ)) (waits all : List ℕ) → IsSentTo settings s ps a old mid waits → a.policy ≡ length ps
      → AppendsLines (totals_line a.faults a.warnings ∷ []) waits all → Appends mid new all → Writes old new (IsReportText settings s ps)
  sent-whole a old mid new waits all h e k n = (h.0 ++ all, Appends-trans old mid new h.0 all h.1 n, is-whole a h.0 waits all h.2 e k)

  pub sent-cut-whole : (a : ReportPlace) (old mid new : Option (List ℕ)) (waits all : List ℕ) → IsSentTo settings s ps a old mid waits → a.policy ≡ length ps
      → AppendsLines (totals_line a.faults a.warnings ∷ []) waits all → Writes mid new (λ (text : List ℕ). (more : List ℕ) × (all ≡ text ++ more))
      → Writes old new (BeginsReport settings s ps)
  sent-cut-whole a old mid new waits all h e k n = (
    h.0 ++ n.0,
    Appends-trans old mid new h.0 n.0 h.1 n.1,
    (n.2.0, subst (IsReportText settings s ps) (ap (λ (t : List ℕ). h.0 ++ t) n.2.1 ∙ sym (append_assoc h.0 n.0 n.2.0)) (is-whole a h.0 waits all h.2 e k)),
  )

-- the same on what the report is on
pub sent-over : (a : ReportPlace) (old new : Option (List ℕ)) (waits : List ℕ) (x y : Settings) (s t : SchemaTree) (set set' : PolicySetTree) → s ≡ t → set ≡ set' → x ≡ y
    → (a.policy ≡ length set.policies) × IsSentTo x s set.policies a old new waits → (a.policy ≡ length set'.policies) × IsSentTo y t set'.policies a old new waits
sent-over a old new waits x y s t set set' d e f h =
    subst (λ (z : Settings). (a.policy ≡ length set'.policies) × IsSentTo z t set'.policies a old new waits) f
    (subst (λ (q : PolicySetTree). (a.policy ≡ length q.policies) × IsSentTo x t q.policies a old new waits) e
    (subst (λ (z : SchemaTree). (a.policy ≡ length set.policies) × IsSentTo x z set.policies a old new waits) d h))
