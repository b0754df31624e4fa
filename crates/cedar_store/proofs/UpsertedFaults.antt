-- The faults of the entities that are upserted are faults of the changes.
use Rattle.std.proofs.Common.{◌≡◌, List, Option, None, Some, refl, sym, subst, Contains}
use Rattle.base_reach.proofs.Chains.{chain_among}
use Rattle.base_reach.proofs.Listed.{nowhere}
use Rattle.cedar_value.specs.World.{EntityTree, World, entry_of, parents_of}
use Rattle.cedar_value.specs.declared.uid.Uid.{Uid}
use Rattle.cedar_store.specs.Changes.{changed, IsThereInChanges}
use Rattle.cedar_store.specs.Faults.{IsThere}
use Rattle.cedar_store.specs.declared.store_fault.StoreFault.{StoreFault}
use Rattle.cedar_store.specs.declared.store_fault.StoreFault.TheVariants.{OutOfMemory, DuplicateEntity, Cycle}
use Rattle.cedar_store.proofs.ChangedLemmas.{parents_upserted}
use Rattle.cedar_store.proofs.Overlaid.{parents_in}

module _ (w : World) (removed : List Uid) (upserted : World) where
  parent_by : (u p : Uid) (o : Option EntityTree) → entry_of upserted u ≡ o → Contains (parents_in o) p → Contains (parents_of (changed w removed upserted) u) p
  parent_by u p None is m = absurd (nowhere p m)
  parent_by u p (Some e) is m = subst (λ ps. Contains ps p) (sym (parents_upserted w removed upserted u e is)) m

  pub fault_before : (f : StoreFault) → IsThere upserted f → IsThereInChanges w removed upserted f
  fault_before OutOfMemory there = there
  fault_before (DuplicateEntity u) there = there
  fault_before (Cycle u) there = chain_among (λ x p m. parent_by x p (entry_of upserted x) refl m) there
