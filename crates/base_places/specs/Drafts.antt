-- Texts and lists that are made piece by piece.
use Rattle.std.specs.Prelude.{◌≡◌, ◌++◌, List, Option, Some, IfSome, option_map}

-- A draft held some items, or none once memory was refused; with more added it holds both, or none (own).
abbrev pub Adds : {T : Type 0} → Option (List T) → List T → Option (List T) → Type 0
Adds held more now = IfSome now (λ items. option_map (λ begun. begun ++ more) held ≡ Some items)
