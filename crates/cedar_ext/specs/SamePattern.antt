-- When two patterns are the same (Cedar language reference, like).
use Rattle.std.specs.Prelude.{Bool, true, false, ◌&&◌, nat_eq, List, [], ◌∷◌}
use Rattle.cedar_ext.specs.declared.pattern.Element.{Element}
use Rattle.cedar_ext.specs.declared.pattern.Element.TheVariants.{Character, Star}

-- Whether two elements are the same: one character, or both a star (Cedar language reference, like).
abbrev pub same_element : Element → Element → Bool
same_element (Character c) (Character d) = nat_eq c d
same_element Star Star = true
same_element _ _ = false

-- Whether two patterns are the same, element by element (Cedar language reference, like).
abbrev pub same_pattern : List Element → List Element → Bool
same_pattern [] [] = true
same_pattern (e ∷ es) (f ∷ fs) = same_element e f && same_pattern es fs
same_pattern _ _ = false
