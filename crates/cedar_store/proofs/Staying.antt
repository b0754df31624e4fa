-- A call that leaves alone what anything else is below.
use Rattle.std.proofs.Common.{◌≡◌, ⊎_elim, Bool, true, false, List, subst}
use Rattle.cedar_value.specs.World.{EntityTree, World}
use Rattle.cedar_value.specs.declared.uid.Uid.{Uid}
use Rattle.cedar_store.specs.Private.Based.{BaseTree}
use Rattle.cedar_store.specs.Private.Called.{DoLinksStay, DoParentsStay}
use Rattle.cedar_store.specs.Private.Changing.{ChangeTree}
use Rattle.cedar_store.specs.Private.Overlaid.{IsLinked}
use Rattle.cedar_store.proofs.ChangedLemmas.{entry_in}
use Rattle.cedar_store.proofs.EachMore.{Each}
use Rattle.cedar_store.proofs.MarkedToo.{named_cases}

abbrev pub DoesEntityStay : BaseTree → List ChangeTree → World → List ChangeTree → World → EntityTree → Type 0
DoesEntityStay b cs part notes upserted e = DoParentsStay b cs part notes upserted e.uid × Each (IsLinked b part notes) e.parents

pub links_stay : (b : BaseTree) (cs : List ChangeTree) (part : World) (notes : List ChangeTree) (removed : List Uid) (upserted : World) → Each (DoParentsStay b cs part notes upserted) removed → Each (DoesEntityStay b cs part notes upserted) upserted
    → DoLinksStay b cs part notes removed upserted
links_stay b cs part notes removed upserted gone there = record {
  same = λ u is. ⊎_elim (λ m. gone u m) (λ h. subst (DoParentsStay b cs part notes upserted) h.2 (there h.0 h.1).0) (named_cases removed upserted u is);
  known = λ u p e at m. (there e (entry_in upserted u e at).0).1 p m;
}

pub not_both : (b : Bool) → b ≡ true → b ≡ false → ⊥
not_both true t f = cc
not_both false t f = cc
