use Rattle.std.proofs.Common.{◌≡◌, ◌+◌, ◌*◌, Some, ℕ, List, [], ◌∷◌, drop}
use Rattle.std.specs.Prelude.{string_bytes}
use Rattle.cedar_ext_time.specs.Datetimes.{since_1970}
use Rattle.cedar_ext_time.specs.DatetimeOf.{datetime_of}
use Rattle.cedar_ext_time.proofs.DatetimeWritten.{moment_written, form_written, text_known}
use Rattle.cedar_ext_time.proofs.datetime_written.utc_text.Goals as goal

pub returns-clause-reads : goal.returns-clause-reads
returns-clause-reads c =
    let date = c.date_of_day.result in
    let h = c.date_of_day.ensures in
    let n = c.args.milliseconds in
    let P : List ℕ → Type 0 = λ text. datetime_of text ≡ Some (since_1970 (c.args.day * 86400000 + n)) in
    let reads = moment_written date.year date.month date.day n c.args.day h.year h.month h.day c.requires.known_milliseconds h.reads in
    text_known (λ s. string_bytes s) P _ c.text_of.result reads c.text_of.ensures

pub returns-clause-form : goal.returns-clause-form
returns-clause-form c =
    let date = c.date_of_day.result in
    let h = c.date_of_day.ensures in
    let n = c.args.milliseconds in
    let P : List ℕ → Type 0 = λ text. drop 23 text ≡ 90 ∷ [] in
    let form = form_written date.year date.month date.day n c.args.day h.year h.month h.day c.requires.known_milliseconds h.reads in
    text_known (λ s. string_bytes s) P _ c.text_of.result form c.text_of.ensures
