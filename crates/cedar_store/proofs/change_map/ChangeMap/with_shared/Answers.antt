use Rattle.std.proofs.Common.{refl, subst, ap, ◌∙◌}
use Rattle.cedar_store.specs.Private.Branches.{Branches, changes_in, hash_of}
use Rattle.cedar_store.specs.Private.Changing.{ChangeTree, IsChangeOfUid, change_of}
use Rattle.cedar_store.specs.Private.Forks.{branches_of}
use Rattle.cedar_store.proofs.Branches.{put_named, put_told, IsMap-put}
use Rattle.cedar_store.proofs.change_map.ChangeMap.with_shared.Goals as goal

pub invariant_of-result : goal.invariant_of-result
invariant_of-result c =
    let hashing = c.self.inside.hashing in
    let tree = branches_of c.self.inside.root in
    let new = branches_of c.in_ok-root.root in
    let change = c.args.change.value in
    let named = c.uid.ensures ∙ ap (λ (d : ChangeTree). d.uid) c.deref-2.ensures in
    let is = put_named hashing tree new c.hash_of-hash.result c.uid.result.now change change c.in_ok-root.ensures refl c.hash_of-hash.ensures named in
    IsMap-put hashing tree new change is c.self.invariant (subst IsChangeOfUid c.deref.ensures c.facts.ensures)

pub returns : goal.returns
returns c u =
    let hashing = c.self.inside.hashing in
    let tree = branches_of c.self.inside.root in
    let new = branches_of c.in_ok-root.root in
    let change = c.args.change.value in
    let named = c.uid.ensures ∙ ap (λ (d : ChangeTree). d.uid) c.deref-2.ensures in
    let is = put_named hashing tree new c.hash_of-hash.result c.uid.result.now change change c.in_ok-root.ensures refl c.hash_of-hash.ensures named in
    rw (← c.self.view_is) (ap (λ (t : Branches). change_of (changes_in t) u) is ∙ put_told (hash_of hashing) (record { hash = hash_of hashing change.uid; change = change }) tree u c.self.invariant.ascending c.self.invariant.keyed refl)
