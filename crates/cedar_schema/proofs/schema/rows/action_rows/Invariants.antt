use Rattle.std.specs.Map.{keys_of}
use Rattle.base_reach.specs.Closure.{LeadsTo}
use Rattle.cedar_schema_spec.specs.SchemaTree.{parents_of_action}
use Rattle.cedar_schema.proofs.Numbered.{AreDone}
use Rattle.cedar_schema.proofs.schema.rows.action_rows.Given as goal

abbrev pub invariant-loop-uid : goal.invariant-loop-uid
invariant-loop-uid l = AreDone (λ u. LeadsTo (parents_of_action l.actions.entries) u u → ⊥) (keys_of l.uid-iterator) (keys_of l.actions.entries)
