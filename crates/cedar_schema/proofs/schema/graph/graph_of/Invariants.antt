use Rattle.std.proofs.Common.{take}
use Rattle.base_reach.specs.Private.Lent.{lent}
use Rattle.cedar_schema.specs.Private.Kept.{AreApart, AreLinkNumbers}
use Rattle.cedar_schema.proofs.schema.graph.graph_of.Given as goal

abbrev pub invariant-loop-key : goal.invariant-loop-key
invariant-loop-key g l = record {
  apart : AreApart g.K.Ord.cmp l.numbers;
  lists : AreLinkNumbers g.K.Ord.cmp (g.G.Links.links l.links) l.numbers (lent (take l.key-index l.declared)) l.lists;
}
