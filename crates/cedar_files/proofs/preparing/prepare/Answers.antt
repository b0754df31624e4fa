use Rattle.std.proofs.Common.{None, inl, inr, refl}
use Rattle.cedar_files.specs.Ends.{EndsUnready}
use Rattle.cedar_files.specs.Faulty.{AreFaulty}
use Rattle.cedar_files.specs.declared.files.Role.TheVariants.{Policies}
use Rattle.cedar_files.proofs.Ends.{at_end}
use Rattle.cedar_files.proofs.preparing.prepare.Goals as goal

pub returns-in-Err-Faults-clause-unready : goal.returns-in-Err-Faults-clause-unready
returns-in-Err-Faults-clause-unready g c =
    let holds = g.F.Files.holds c.args.files.now in
    let r = c.in-Err-Faults.refused in
    let faulty : AreFaulty c.args.settings holds r = rw c.in-Err-Faults.field-0-is at c.in-Err-Faults.ensures.unprepared in
    let told = c.tell.ensures in
    at_end (EndsUnready c.args.settings holds _ _ _) c.tell.result
    (λ h. absurd (told.others.0 h))
    (λ h. (Policies, record { number = 701; offset = None }, inr (r.schema, r.policies, faulty.hold, (told.refused h).0, refl), (told.refused h).1))
    (λ h. (r.schema, r.policies, faulty.hold, (told.faults h).0, (told.faults h).1))
    (λ h. absurd (told.others.1 h))
    (λ h. (
      inr (told.device h),
      elim (told.stands h) [
        | inl begun ↦ inr (inl (r.schema, r.policies, faulty.hold, begun))
        | inr begun ↦ inr (inr (Policies, record { number = 701; offset = None }, inr (r.schema, r.policies, faulty.hold, begun.0, refl), begun.1))
      ],
    ))
    told.stands_whole
