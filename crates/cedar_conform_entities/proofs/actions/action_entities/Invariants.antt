use Rattle.std.proofs.Common.{◌≡◌, ◌++◌, map}
use Rattle.cedar_schema_spec.specs.Declarations.{action_entities, action_entity}
use Rattle.cedar_conform_entities.proofs.actions.action_entities.Given as goal

-- what was made, before what is left, is all
abbrev pub invariant-loop-uid : goal.invariant-loop-uid
invariant-loop-uid l = l.entities.items ++ map action_entity l.uid-iterator ≡ action_entities l.schema
