use Rattle.std.proofs.Common.{◌≡◌, [], ◌++◌, ◌∷◌, refl}
use Rattle.cedar_store.specs.Private.Branches.{changes_in, keyed_in}
use Rattle.cedar_store.specs.Private.Forks.{branches_of, keyed_of}
use Rattle.cedar_store.specs.declared.change_tree.ForkTree.{ForkTree, Leaf, Two', Three'}
use Rattle.cedar_store.proofs.Branches.{is_something}
use Rattle.cedar_store.proofs.change_map.ChangeMap.is_empty.Goals as goal

only_leaf : (t : ForkTree) → changes_in (branches_of t) ≡ [] → t ≡ Leaf
only_leaf Leaf none = refl
only_leaf (Two' p l e r) none = absurd (is_something (keyed_in (branches_of l)) (keyed_in (branches_of r)) (keyed_of e) none)
only_leaf (Three' p l e m f r) none = absurd (is_something (keyed_in (branches_of l)) (keyed_in (branches_of m) ++ keyed_of f ∷ keyed_in (branches_of r)) (keyed_of e) none)

pub returns-in_default : goal.returns-in_default
returns-in_default c = rw (← c.self.view_is) (λ h. absurd (cc), λ none. absurd (c.in_default.not-Leaf (only_leaf c.self.inside.root none)))
