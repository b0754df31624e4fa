use Rattle.std.proofs.Common.{◌≡◌, drop}
use Rattle.std.specs.List.{list_all}
use Rattle.cedar_schema_spec.specs.Enumerated.{is_listed}
use Rattle.cedar_conform_entities.proofs.listed.are_listed.Given as goal

-- the types have the uids where they have those that are left
abbrev pub invariant-loop-uid : goal.invariant-loop-uid
invariant-loop-uid l = list_all (is_listed l.schema) l.uids ≡ list_all (is_listed l.schema) (drop l.uid-index l.uids)
