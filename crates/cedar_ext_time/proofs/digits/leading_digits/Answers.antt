use Rattle.std.proofs.Common.{◌∙◌, not}
use Rattle.std.specs.Char.{is_ascii_digit}
use Rattle.cedar_ext_time.proofs.Runs.{place_or_len}
use Rattle.cedar_ext_time.proofs.digits.leading_digits.Goals as goal

pub returns-clause-count : goal.returns-clause-count
returns-clause-count c = c.unwrap_or.ensures ∙ place_or_len (λ b. not (is_ascii_digit b)) c.args.text.now _ c.first_letter.ensures.place
