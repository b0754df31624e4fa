use Rattle.std.proofs.Common.{◌≡◌, ◌∙◌, Some, ap, arith}
use Rattle.std.proofs.lemmas.Int.{ints}
use Rattle.cedar_ext_time.specs.Calendar.{days_before_year}
use Rattle.cedar_ext_time.proofs.Years.{years_1970}
use Rattle.cedar_ext_time.proofs.datetime.Datetime.to_text.Goals as goal

pub returns-clause-reads : goal.returns-clause-reads
returns-clause-reads c =
    let k : days_before_year 1970 ≡ 719528 = years_1970 in
    c.in_ok-utc_text.ensures.reads ∙ ap Some (omega (arith, ints))
