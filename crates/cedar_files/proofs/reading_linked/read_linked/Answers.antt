use Rattle.std.proofs.Common.{Err, inl, inr, ap}
use Rattle.cedar_files.specs.Unprepared.{IsUnreported}
use Rattle.cedar_files.specs.Validation.{HoldText}
use Rattle.cedar_files.specs.declared.files.Role.TheVariants.{Schema, Policies, Links}
use Rattle.cedar_files.proofs.Unusable.{if-refused, unusable-is}
use Rattle.cedar_files.proofs.reading_linked.read_linked.Goals as goal

pub returns-in-Err-clause-unprepared : goal.returns-in-Err-clause-unprepared
returns-in-Err-clause-unprepared g c =
    unusable-is (IsUnreported c.args.language (g.F.Files.holds c.args.files.now)) Schema c.in-Err.unread _ c.unusable.ensures
    c.in-Err.ensures.refused (λ e. inl (c.in-Err.ensures.unnamed (ap Err e))) (λ e. inl (c.in-Err.ensures.device (ap Err e))) tt

pub returns-in-Err-read_policies-clause-unprepared : goal.returns-in-Err-read_policies-clause-unprepared
returns-in-Err-read_policies-clause-unprepared g c =
    unusable-is (IsUnreported c.args.language (g.F.Files.holds c.args.files.now)) Policies c.in-Err-read_policies.unread _ c.unusable-in-Err-read_policies.ensures
    (if-refused _ _ c.in-Err-read_policies.unread (λ r no. ((c.in-Ok.schema, c.in-Ok.ensures.found), no)) c.in-Err-read_policies.ensures.refused)
    (λ e. inr (c.in-Err-read_policies.ensures.unnamed (ap Err e))) (λ e. inr (inl (c.in-Err-read_policies.ensures.device (ap Err e)))) tt

pub returns-in-Err-enter_links-clause-unprepared : goal.returns-in-Err-enter_links-clause-unprepared
returns-in-Err-enter_links-clause-unprepared g c =
    let text : HoldText c.args.language (g.F.Files.holds c.args.files.now) c.in-Ok.schema c.in-Ok-read_policies.policies = record { is_schema = c.in-Ok.ensures.found; are_policies = c.in-Ok-read_policies.ensures.found } in
    unusable-is (IsUnreported c.args.language (g.F.Files.holds c.args.files.now)) Links c.in-Err-enter_links.unread _ c.unusable-in-Err-enter_links.ensures
    (if-refused _ _ c.in-Err-enter_links.unread (λ r no. (c.in-Ok.schema, c.in-Ok-read_policies.policies, text, no)) c.in-Err-enter_links.ensures.refused)
    (λ e. absurd (c.in-Err-enter_links.ensures.unnamed (ap Err e))) (λ e. inr (inr (c.in-Err-enter_links.ensures.device (ap Err e)))) tt
