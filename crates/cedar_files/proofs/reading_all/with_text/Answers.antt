use Rattle.std.proofs.Common.{Err, inl, inr, ap}
use Rattle.cedar_files.specs.Unprepared.{IsUnprepared}
use Rattle.cedar_files.specs.declared.files.Role.TheVariants.{Links}
use Rattle.cedar_files.proofs.Unusable.{if-refused, unusable-is}
use Rattle.cedar_files.proofs.reading_all.with_text.Goals as goal

pub returns-in-Err-clause-unprepared : goal.returns-in-Err-clause-unprepared
returns-in-Err-clause-unprepared g c =
    unusable-is (IsUnprepared c.args.settings (g.F.Files.holds c.args.files.now)) Links c.in-Err.unread _ c.unusable.ensures
    (if-refused _ _ c.in-Err.unread (λ r no. (c.args.schema, c.args.policies, c.requires.held, no)) c.in-Err.ensures.refused)
    (λ e. absurd (c.in-Err.ensures.unnamed (ap Err e))) (λ e. inr (inr (inl (c.in-Err.ensures.device (ap Err e))))) tt
