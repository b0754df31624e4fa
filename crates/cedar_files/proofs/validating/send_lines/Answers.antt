use Rattle.std.proofs.Common.{refl, ◌∙◌, ◌<◌, arith}
use Rattle.std.proofs.lemmas.Result.{err_from_is_err_and}
use Rattle.cedar_files.specs.Private.Reporting.{BreaksOff}
use Rattle.cedar_files.specs.declared.ending.End.TheVariants.{Device, Memory}
use Rattle.cedar_files.proofs.Sending.{broken-at, sent-begun, sent-cut, sent-flushed, sent-more, sent-none}
use Rattle.cedar_files.proofs.validating.send_lines.Goals as goal

pub lines-init : goal.lines-init
lines-init g c = record {
  count = refl;
  sent = sent-none c.args.reporting.now.settings c.args.reporting.now.validator c.args.reporting.now.policies.now.policies c.beginning-place.result _ c.args.text.now c.beginning-place.ensures c.requires.empty;
}

pub returns-in_err-append_next-clause-broken : goal.returns-in_err-append_next-clause-broken
returns-in_err-append_next-clause-broken g c =
    let settings = c.args.reporting.now.settings in
    let s = c.args.reporting.now.validator in
    let ps = c.args.reporting.now.policies.now.policies in
    let p = err_from_is_err_and c.from_residual.result c.from_residual.ensures.1 in
    broken-at (BreaksOff settings s ps _ _ _) Memory p.0 c.from_residual.result p.1 p.2
    (sent-begun settings s ps c.lines.place _ _ c.lines.text c.lines.invariant.sent)

pub lines-preserved-in-Continue-branch-2 : goal.lines-preserved-in-Continue-branch-2
lines-preserved-in-Continue-branch-2 g c =
    let settings = c.args.reporting.now.settings in
    let s = c.args.reporting.now.validator in
    let ps = c.args.reporting.now.policies.now.policies in
    let more = (c.in_ok-append_next.ensures.appended c.if-branch.true).1 in
    record {
      count = c.in_ok-send.ensures.count_ok ∙ c.lines.invariant.count;
      sent =
          sent-flushed settings s ps c.append_next.new.place _ _ _ c.append_next.new.text c.send.new.self
          (sent-more settings s ps c.lines.place c.append_next.new.place _ _ c.lines.text c.append_next.new.text c.lines.invariant.sent more)
          c.in_ok-send.ensures.ok.1 c.in_ok-send.ensures.ok.0;
    }

pub returns-in_err-send-clause-broken : goal.returns-in_err-send-clause-broken
returns-in_err-send-clause-broken g c =
    let settings = c.args.reporting.now.settings in
    let s = c.args.reporting.now.validator in
    let ps = c.args.reporting.now.policies.now.policies in
    let more = (c.in_ok-append_next.ensures.appended c.if-branch.true).1 in
    let p = err_from_is_err_and c.from_residual-in_err-send.result c.from_residual-in_err-send.ensures.1 in
    let failed : g.K.Sink.failed c.args.sink.now < g.K.Sink.failed c.send.new.sink = omega (arith, c.in_err-send.ensures.count_err, c.lines.invariant.count) in
    broken-at (BreaksOff settings s ps (g.K.Sink.failed c.args.sink.now < g.K.Sink.failed c.send.new.sink) _ _) Device p.0 c.from_residual-in_err-send.result p.1 p.2 (
      failed,
      sent-cut settings s ps c.append_next.new.place _ _ _ c.append_next.new.text
          (sent-more settings s ps c.lines.place c.append_next.new.place _ _ c.lines.text c.append_next.new.text c.lines.invariant.sent more)
          c.in_err-send.ensures.err,
    )

pub lines-preserved : goal.lines-preserved
lines-preserved g c =
    let settings = c.args.reporting.now.settings in
    let s = c.args.reporting.now.validator in
    let ps = c.args.reporting.now.policies.now.policies in
    record {
      count = c.lines.invariant.count;
      sent =
          sent-more settings s ps c.lines.place c.append_next.new.place _ _ c.lines.text c.append_next.new.text c.lines.invariant.sent
          (c.in_ok-append_next.ensures.appended c.if-branch.true).1;
    }
