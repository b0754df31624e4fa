use Rattle.std.proofs.Common.{inr, subst}
use Rattle.cedar_files.specs.ReportPart.{IsNextPart}
use Rattle.cedar_files.specs.declared.report_place.ReportPlace.{ReportPlace as Place}
use Rattle.cedar_c.specs.Texts.{held_by}
use Rattle.cedar_c.proofs.ReportPlaces.{next-told}
use Rattle.cedar_c.proofs.report_parts.report_next.Goals as goal

pub returns-in-Ok-Some-clause-room : goal.returns-in-Ok-Some-clause-room
returns-in-Ok-Some-clause-room c = λ h.
    let part = c.in-Ok-Some.part in
    let found = rw c.in-Ok-Some.field-0-is at c.in-Ok-Some.ensures.part in
    let next = subst (λ (p : Place). IsNextPart c.args.settings found.0 found.1.policies p part) c.place.ensures.place found.3 in
    let told = c.give_part.ensures.room h in
    let long = rw c.in-Ok-Some.part-is at told.0 in
    (part.text.items, next-told c.args.settings (held_by c.args.texts.now) found.0 found.1 found.2 c.args.place.now part c.place.ensures.fits next, long, told.2)

pub returns-in-Err-Refused-clause-refused : goal.returns-in-Err-Refused-clause-refused
returns-in-Err-Refused-clause-refused c = λ h. record {
  role = c.in-Err-Refused.role;
  why = c.in-Err-Refused.why;
  refused = rw c.in-Err-Refused.field-0-is at c.in-Err-Refused.ensures.unprepared;
  is_line = c.give_line.ensures.refused h;
}

pub returns-in-Err-Refused-clause-room : goal.returns-in-Err-Refused-clause-room
returns-in-Err-Refused-clause-room c = λ h.
    let told = c.give_line.ensures.room h in (
      told.0,
      inr (inr (record {
        role = c.in-Err-Refused.role;
        why = c.in-Err-Refused.why;
        refused = rw c.in-Err-Refused.field-0-is at c.in-Err-Refused.ensures.unprepared;
        is_line = told.1;
      })),
      told.2,
      told.3,
    )
