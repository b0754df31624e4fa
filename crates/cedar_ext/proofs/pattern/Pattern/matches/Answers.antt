use Rattle.cedar_ext.proofs.Tested.{is_match-gives}
use Rattle.cedar_ext.proofs.pattern.Pattern.matches.Goals as goal

pub returns-clause-gives : goal.returns-clause-gives
returns-clause-gives c = rw (← c.elements.ensures) (is_match-gives _ _ _ c.matches_elements.ensures)
