use Rattle.std.proofs.Common.{take}
use Rattle.std.specs.BTreeMap.{get}
use Rattle.base_search.specs.Numbered.{AreNumbersOf}
use Rattle.cedar_schema.specs.Private.Kept.{AreApart, KeepsNumbers}
use Rattle.cedar_schema.proofs.schema.numbers.number_all.Given as goal

abbrev pub invariant-loop-key : goal.invariant-loop-key
invariant-loop-key g l = record {
  apart : AreApart g.K.Ord.cmp l.numbers;
  kept : KeepsNumbers g.K.Ord.cmp l.initial.numbers l.numbers;
  found : AreNumbersOf (get g.K.Ord.cmp l.numbers) (take l.key-index l.keys) l.found.items;
}
