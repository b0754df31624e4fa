use Rattle.std.proofs.Common.{inl, inr}
use Rattle.cedar_files.specs.Ends.{Validates}
use Rattle.cedar_files.proofs.Ends.{at_end}
use Rattle.cedar_files.proofs.validating.validate_keeping.Goals as goal

pub returns-in-Ok-clause-ends : goal.returns-in-Ok-clause-ends
returns-in-Ok-clause-ends g c =
    let s = c.in-Ok.schema in
    let set = c.in-Ok.policies in
    let held = c.in-Ok.ensures.held in
    let told = c.report_to-end.ensures in
    at_end (Validates c.args.settings (g.F.Files.holds c.args.files.now) _ _ _) c.report_to-end.result
    (λ h. (s, set, held, told.done h, told.whole (inl h)))
    (λ h. absurd (told.others.0 h))
    (λ h. (s, set, held, told.faults h, told.whole (inr h)))
    (λ h. absurd (told.others.1 h))
    (λ h. (inr (told.device h), inr (inl (s, set, held, told.begun (inl h)))))
    (λ h. inr (s, set, held, told.begun (inr h)))
