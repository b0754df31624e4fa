use Rattle.std.proofs.Common.{refl}
use Rattle.cedar_parser.proofs.EarlierMeanings.{earlier_method}
use Rattle.cedar_parser.proofs.EarlierLemmas.{earlier_text}
use Rattle.cedar_parser.proofs.parser.earlier_texts.Goals as goal

pub returns-clause-texts : goal.returns-clause-texts
returns-clause-texts c = earlier_text

pub returns-clause-attributes : goal.returns-clause-attributes
returns-clause-attributes c = λ operand first. refl

pub returns-clause-methods : goal.returns-clause-methods
returns-clause-methods c = earlier_method
