use Rattle.std.proofs.Common.{length, ◌++◌, List}
use Rattle.serde_json.specs.View.{items_view}
use Rattle.cedar_ast.specs.declared.link.Link.{Link}
use Rattle.cedar_conform.specs.Links.{DenoteLinks}
use Rattle.cedar_conform.proofs.links.read_items.Given as goal

-- the links that were read, before those that are left, are all; and where all denote some, so do those that are left
abbrev pub invariant-walk : goal.invariant-walk
invariant-walk l = record {
  whole : (later : List Link) → DenoteLinks (items_view l.rest) later → DenoteLinks (items_view l.items) (l.links.items ++ later);
  left : (all : List Link) → DenoteLinks (items_view l.items) all → (later : List Link) × DenoteLinks (items_view l.rest) later;
}

abbrev pub decreases-walk : goal.decreases-walk
decreases-walk l = length l.rest
