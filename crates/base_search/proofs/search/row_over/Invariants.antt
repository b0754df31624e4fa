use Rattle.std.proofs.Common.{◌+◌, length}
use Rattle.base_bits.specs.Bits.{has_bit}
use Rattle.base_search.specs.Links.{next}
use Rattle.base_search.proofs.Ahead.{IsSearching, links_left}
use Rattle.base_search.proofs.search.row_over.Given as goal

abbrev pub invariant-search : goal.invariant-search
invariant-search l = IsSearching (next l.graph.lists l.graph.places.items) l.list (has_bit l.row) l.pending.items

abbrev pub decreases-search : goal.decreases-search
decreases-search l = links_left (next l.graph.lists l.graph.places.items) (has_bit l.row) (length l.graph.places.items) + length l.pending.items
