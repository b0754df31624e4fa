-- Nothing was written, before the first line.
use Rattle.std.proofs.Common.{ℕ, List, [], Option, None, Some, refl, sym, append-nil}
use Rattle.std.specs.Prelude.{IfSome}
use Rattle.base_lines.specs.AnswerText.{Answering, AnswersFirst, BeginsAnswers, Writes}
use Rattle.base_lines.specs.Lines.{lines_of}

pub first_of_none : (r : Answering) (left written : Option (List ℕ)) → IfSome left (λ input. Writes written written (AnswersFirst r (lines_of input)))
first_of_none r None written = tt
first_of_none r (Some input) None = ([], tt, (0, refl))
first_of_none r (Some input) (Some xs) = ([], sym (append-nil xs), (0, refl))

pub begins_with_none : (r : Answering) (left written : Option (List ℕ)) → IfSome left (λ input. Writes written written (BeginsAnswers r (lines_of input)))
begins_with_none r None written = tt
begins_with_none r (Some input) None = ([], tt, ([], (0, refl)))
begins_with_none r (Some input) (Some xs) = ([], sym (append-nil xs), ([], (0, refl)))
