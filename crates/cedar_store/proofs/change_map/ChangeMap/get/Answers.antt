use Rattle.std.proofs.Common.{ℕ, ap, ◌∙◌}
use Rattle.cedar_store.specs.Private.Branches.{descent, hash_of}
use Rattle.cedar_store.specs.Private.Forks.{branches_of}
use Rattle.cedar_store.proofs.Branches.{descent_is}
use Rattle.cedar_store.proofs.change_map.ChangeMap.get.Goals as goal

pub returns-in_default : goal.returns-in_default
returns-in_default c =
    let tree = branches_of c.self.inside.root in
    let uid = c.args.uid.now in
    rw (← c.self.view_is) (c.find.ensures ∙ ap (λ (n : ℕ). descent n uid tree) c.hash_of.ensures ∙ descent_is (hash_of c.self.inside.hashing) tree uid c.self.invariant.ascending c.self.invariant.keyed)
