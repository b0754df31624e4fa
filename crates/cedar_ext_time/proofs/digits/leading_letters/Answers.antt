use Rattle.std.proofs.Common.{◌∙◌}
use Rattle.std.specs.Char.{is_ascii_digit}
use Rattle.cedar_ext_time.proofs.Runs.{place_or_len}
use Rattle.cedar_ext_time.proofs.digits.leading_letters.Goals as goal

pub returns-clause-count : goal.returns-clause-count
returns-clause-count c = c.unwrap_or.ensures ∙ place_or_len is_ascii_digit c.args.text.now _ c.first_digit.ensures.place
