use Rattle.std.proofs.Common.{map, take}
use Rattle.std.specs.List.{concat}
use Rattle.base_places.specs.Drafts.{Adds}
use Rattle.base_places.proofs.draft.Draft.add_all.Given as goal

abbrev pub invariant-loop-text : goal.invariant-loop-text
invariant-loop-text l = Adds l.initial.self (concat (map (λ text. text.now) (take l.text-index l.texts))) l.self
