use Rattle.cedar_check_law.proofs.Languages.{accepted, faults, warnings}
use Rattle.cedar_check_law.proofs.validation_in_each_language.Goals as goal

pub returns-clause-acceptance : goal.returns-clause-acceptance
returns-clause-acceptance c = λ a b same s p h. accepted a b same s p h

pub returns-clause-report : goal.returns-clause-report
returns-clause-report c = λ a b same s ps. (λ found h. faults a b same s h, λ ids h. warnings a b same s h)
