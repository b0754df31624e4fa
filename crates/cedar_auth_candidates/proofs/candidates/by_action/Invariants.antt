use Rattle.std.proofs.Common.{◌≡◌, Contains, Some}
use Rattle.std.specs.Map.{keys_of}
use Rattle.cedar_value.specs.Order.{uid_cmp}
use Rattle.cedar_value.specs.declared.uid.Uid.{Uid}
use Rattle.cedar_schema_spec.specs.SchemaTree.{ActionTree, action_at}
use Rattle.cedar_auth_candidates.specs.declared.row.Row.{Row}
use Rattle.cedar_auth_candidates.specs.Private.RowMaking.{AreRight}
use Rattle.cedar_auth_candidates.specs.Private.Sifting.{OfAction}
use Rattle.cedar_auth_candidates.proofs.Makings.{IsMaking}
use Rattle.cedar_auth_candidates.proofs.candidates.by_action.Given as goal

abbrev pub invariant-loop-uid : goal.invariant-loop-uid
invariant-loop-uid l = record {
  making : IsMaking uid_cmp (λ (u : Uid) (row : Row). (action : ActionTree) → action_at l.schema u ≡ Some action → OfAction l.schema l.policies.policies l.index u action row.cells.value) l.rows (keys_of l.uid-iterator) (keys_of l.schema.actions);
  same : l.maker.cells ≡ l.index;
  right : AreRight l.schema l.policies.policies l.index l.positions.leaving.items l.maker.made;
  listed : (e : Uid × ActionTree) → Contains l.uid-iterator e → Contains l.schema.actions e;
}
