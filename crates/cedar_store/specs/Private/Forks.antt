-- What a tree of changes is seen as.
use Rattle.cedar_store.specs.Private.Branches.{Branches, no_branch, two, three, Keyed, Grown, whole, split}
use Rattle.cedar_store.specs.declared.change_tree.ForkTree.{ForkTree, Leaf, Two', Three'}
use Rattle.cedar_store.specs.declared.change_tree.GrownTree.{GrownTree}
use Rattle.cedar_store.specs.declared.change_tree.GrownTree.TheVariants.{Whole, Split}
use Rattle.cedar_store.specs.declared.keyed_change.KeyedChange.{KeyedChange}

abbrev pub keyed_of : KeyedChange → Keyed
keyed_of k = record { hash = k.hash; change = k.change.value }

-- each change with its hash, whatever forks hold it
abbrev pub branches_of : ForkTree → Branches
branches_of Leaf = no_branch
branches_of (Two' p l e r) = two (branches_of l) (keyed_of e) (branches_of r)
branches_of (Three' p l e m f r) = three (branches_of l) (keyed_of e) (branches_of m) (keyed_of f) (branches_of r)

abbrev pub grown_of : GrownTree → Grown
grown_of (Whole t) = whole (branches_of t)
grown_of (Split l e r) = split (branches_of l) (keyed_of e) (branches_of r)
