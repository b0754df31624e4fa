-- Lemmas on the next part of a report.
use Rattle.std.proofs.Common.{◌≡◌, Option, subst}
use Rattle.std.specs.Prelude.{MatchOption}
use Rattle.cedar_ast.specs.PolicySetTree.{PolicySetTree}
use Rattle.cedar_schema_spec.specs.SchemaTree.{SchemaTree}
use Rattle.cedar_check_spec.specs.declared.settings.Settings.{Settings}
use Rattle.cedar_files.specs.ReportPart.{IsMisplaced, IsNextPart}
use Rattle.cedar_files.specs.declared.report_parts.ReportPart.{ReportPart}
use Rattle.cedar_files.specs.declared.report_place.ReportPlace.{ReportPlace}

-- the part on what the report is on
pub part-over : (found : Option ReportPart) (place : ReportPlace) (x y : Settings) (s t : SchemaTree) (set set' : PolicySetTree) → s ≡ t → set ≡ set' → x ≡ y
    → MatchOption found (IsMisplaced x s set.policies place) (IsNextPart x s set.policies place)
    → MatchOption found (IsMisplaced y t set'.policies place) (IsNextPart y t set'.policies place)
part-over found place x y s t set set' d e f h =
    subst (λ (z : Settings). MatchOption found (IsMisplaced z t set'.policies place) (IsNextPart z t set'.policies place)) f
    (subst (λ (q : PolicySetTree). MatchOption found (IsMisplaced x t q.policies place) (IsNextPart x t q.policies place)) e
    (subst (λ (z : SchemaTree). MatchOption found (IsMisplaced x z set.policies place) (IsNextPart x z set.policies place)) d h))
