use Rattle.std.proofs.Common.{Err, inr, ap}
use Rattle.cedar_files.specs.Unprepared.{IsUnprepared}
use Rattle.cedar_files.specs.declared.files.Role.TheVariants.{Entities}
use Rattle.cedar_files.proofs.Holding.{hold-all}
use Rattle.cedar_files.proofs.Unusable.{if-refused, unusable-is}
use Rattle.cedar_files.proofs.reading_all.with_validated.Goals as goal

pub returns-in-Err-clause-unprepared : goal.returns-in-Err-clause-unprepared
returns-in-Err-clause-unprepared g c =
    let v = c.args.validated in
    unusable-is (IsUnprepared v.settings (g.F.Files.holds c.args.files.now)) Entities c.in-Err.unread _ c.unusable.ensures
    (if-refused _ _ c.in-Err.unread (λ r no. (v.schema, v.policies, c.requires.held, c.requires.accepted, no)) c.in-Err.ensures.refused)
    (λ e. inr (inr (c.in-Err.ensures.unnamed (ap Err e)))) (λ e. inr (inr (inr (c.in-Err.ensures.device (ap Err e))))) tt

pub returns-clause-held : goal.returns-clause-held
returns-clause-held g c =
    let r = c.in-Ok.ready in
    hold-all _ c.args.validated r c.requires.held c.in-Ok.ensures.holds c.in-Ok.ensures.settings c.in-Ok.ensures.found c.premises.ensures.apart c.premises.ensures.validated c.premises.ensures.conforms c.lines_are_answered_soundly.ensures
