use Rattle.std.proofs.Common.{◌≡◌, [], true, inl, inr, refl, rules, sym, subst, arith}
use Rattle.cedar_files.specs.ReportPart.{IsReportPart}
use Rattle.cedar_files.proofs.Parts.{join-on, no-part}
use Rattle.cedar_files.proofs.report_parts.append_part.Goals as goal

pub part-init : goal.part-init
part-init c =
    let settings = c.args.reporting.now.settings in
    let s = c.args.reporting.now.validator in
    let ps = c.args.reporting.now.policies.now.policies in
    let place = c.args.place.now in
    record {
      part = subst (IsReportPart settings s ps place place) (sym c.requires.empty) (no-part settings s ps place c.requires.within);
      moved = inl refl;
    }

pub returns-then-len-ge-PART_BYTES-clause-part : goal.returns-then-len-ge-PART_BYTES-clause-part
returns-then-len-ge-PART_BYTES-clause-part c =
    let more : c.in_ok-append_next.field-0 ≡ true = search rules in
    join-on c.args.reporting.now.settings c.args.reporting.now.validator c.args.reporting.now.policies.now.policies c.args.place.now c.part.place c.append_next.new.place [] c.part.text c.append_next.new.text
    c.part.invariant.part (c.in_ok-append_next.ensures.appended more).1

pub part-preserved : goal.part-preserved
part-preserved c =
    let more : c.in_ok-append_next.field-0 ≡ true = search rules in
    let next = c.in_ok-append_next.ensures.appended more in
    record {
      part =
          join-on c.args.reporting.now.settings c.args.reporting.now.validator c.args.reporting.now.policies.now.policies c.args.place.now c.part.place c.append_next.new.place [] c.part.text c.append_next.new.text
          c.part.invariant.part next.1;
      moved = inr (omega (arith, c.part.invariant.part.forward, next.0));
    }
