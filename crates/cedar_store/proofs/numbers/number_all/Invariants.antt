use Rattle.std.proofs.Common.{take}
use Rattle.base_search.specs.Numbered.{AreNumbersOf}
use Rattle.cedar_store.specs.Private.Kept.{KeepsNumbers, number_in}
use Rattle.cedar_store.proofs.numbers.number_all.Given as goal

abbrev pub invariant-loop-uid : goal.invariant-loop-uid
invariant-loop-uid l = record {
  kept : KeepsNumbers l.initial.numbers.keys l.numbers.keys;
  found : AreNumbersOf (number_in l.numbers.keys) (take l.uid-index l.uids) l.found.items;
}
