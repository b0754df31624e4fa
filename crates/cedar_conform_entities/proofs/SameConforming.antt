-- A world with the entities of one that conforms, each once, conforms.
use Rattle.std.proofs.Common.{◌≡◌, sym, ap, ◌∙◌}
use Rattle.std.specs.Prelude.{is_some}
use Rattle.cedar_schema_spec.specs.Conformance.{Conforms}
use Rattle.cedar_schema_spec.specs.SchemaTree.{SchemaTree}
use Rattle.cedar_store.specs.Entities.{AreUidsDistinct}
use Rattle.cedar_store.proofs.SameEntities.{same_below, same_contains}
use Rattle.cedar_value.specs.World.{World, entry_of}
use Rattle.cedar_value.specs.declared.uid.Uid.{Uid}

pub same_conforms : (s : SchemaTree) (v w : World) → ((u : Uid) → entry_of v u ≡ entry_of w u) → AreUidsDistinct v → Conforms s w → Conforms s v
same_conforms s v w same distinct conforms = record {
  entities = λ e m. conforms.entities e (same_contains v w same distinct e m);
  listed = λ e m. conforms.listed e (same_contains v w same distinct e m);
  above = λ u p n b. conforms.above u p n (same_below v w same b);
  present = λ u a. ap is_some (same u) ∙ conforms.present u a;
  actions = λ u p a. ((λ b. (conforms.actions u p a).0 (same_below v w same b)), (λ d. same_below w v (λ x. sym (same x)) ((conforms.actions u p a).1 d)));
}
