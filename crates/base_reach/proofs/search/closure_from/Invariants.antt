use Rattle.std.proofs.Common.{◌+◌, length}
use Rattle.std.specs.BTreeSet.{contains}
use Rattle.base_reach.specs.Private.Lent.{lent}
use Rattle.base_reach.proofs.Searching.{IsSearching, links_left}
use Rattle.base_reach.proofs.search.closure_from.Given as goal

abbrev pub invariant-search : goal.invariant-search
invariant-search g l = IsSearching (g.G.Links.links l.graph) l.from (contains g.K.Ord.cmp l.found) (lent l.pending.items)

abbrev pub decreases-search : goal.decreases-search
decreases-search g l = links_left (g.G.Links.links l.graph) (g.G.Links.sources l.graph) (contains g.K.Ord.cmp l.found) + length l.pending.items
