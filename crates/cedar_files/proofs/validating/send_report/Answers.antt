use Rattle.std.proofs.Common.{[], None, refl, ◌<◌, arith}
use Rattle.std.proofs.lemmas.Result.{err_from_is_err_and}
use Rattle.cedar_files.specs.ReportPart.{beginning}
use Rattle.cedar_files.specs.Private.Reporting.{BreaksOff}
use Rattle.cedar_files.specs.declared.ending.End.TheVariants.{Device, Memory}
use Rattle.cedar_files.proofs.Sending.{broken-at, sent-begun, sent-cut-whole, sent-none, sent-over, sent-whole}
use Rattle.cedar_files.proofs.validating.send_report.Goals as goal

pub returns-in_err-reporting-clause-broken : goal.returns-in_err-reporting-clause-broken
returns-in_err-reporting-clause-broken g c =
    let s = c.args.schema.now in
    let ps = c.args.policies.now.policies in
    let p = err_from_is_err_and c.from_residual.result c.from_residual.ensures.1 in
    broken-at (BreaksOff c.args.settings s ps _ _ _) Memory p.0 c.from_residual.result p.1 p.2
    (sent-begun c.args.settings s ps (beginning None) _ _ [] (sent-none c.args.settings s ps (beginning None) _ [] refl refl))

pub returns-in_err-append_totals-clause-broken : goal.returns-in_err-append_totals-clause-broken
returns-in_err-append_totals-clause-broken g c =
    let s = c.args.schema.now in
    let ps = c.args.policies.now.policies in
    let place = c.in_ok-place.place in
    let over = c.in_ok-reporting.ensures in
    let sent = sent-over place _ _ c.send_lines.new.text _ _ _ _ _ _ over.0 over.1 over.2 c.in_ok-place.ensures.sent in
    let p = err_from_is_err_and c.from_residual-in_err-append_totals.result c.from_residual-in_err-append_totals.ensures.1 in
    broken-at (BreaksOff c.args.settings s ps _ _ _) Memory p.0 c.from_residual-in_err-append_totals.result p.1 p.2
    (sent-begun c.args.settings s ps place _ _ c.send_lines.new.text sent.1)

pub returns-in_err-send-clause-broken : goal.returns-in_err-send-clause-broken
returns-in_err-send-clause-broken g c =
    let s = c.args.schema.now in
    let ps = c.args.policies.now.policies in
    let place = c.in_ok-place.place in
    let over = c.in_ok-reporting.ensures in
    let sent = sent-over place _ _ c.send_lines.new.text _ _ _ _ _ _ over.0 over.1 over.2 c.in_ok-place.ensures.sent in
    let p = err_from_is_err_and c.from_residual-in_err-send.result c.from_residual-in_err-send.ensures.1 in
    let failed : g.K.Sink.failed c.args.sink.now < g.K.Sink.failed c.send.new.sink = omega (arith, c.in_err-send.ensures.count_err, c.in_ok-place.ensures.count) in
    broken-at (BreaksOff c.args.settings s ps (g.K.Sink.failed c.args.sink.now < g.K.Sink.failed c.send.new.sink) _ _) Device p.0 c.from_residual-in_err-send.result p.1 p.2
    (failed, sent-cut-whole c.args.settings s ps place _ _ _ c.send_lines.new.text c.append_totals.new.lines sent.1 sent.0 c.in_ok-append_totals.ensures c.in_err-send.ensures.err)

pub returns-clause-whole : goal.returns-clause-whole
returns-clause-whole g c =
    let place = c.in_ok-place.place in
    let over = c.in_ok-reporting.ensures in
    let sent = sent-over place _ _ c.send_lines.new.text _ _ _ _ _ _ over.0 over.1 over.2 c.in_ok-place.ensures.sent in
    sent-whole c.args.settings c.args.schema.now c.args.policies.now.policies place _ _ _ c.send_lines.new.text c.append_totals.new.lines sent.1 sent.0 c.in_ok-append_totals.ensures c.in_ok-send.ensures.ok.1
