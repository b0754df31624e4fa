use Rattle.std.proofs.Common.{take}
use Rattle.std.specs.List.{AllZip}
use Rattle.cedar_store.proofs.PlainRows.{IsRow}
use Rattle.cedar_store.proofs.plain_ancestors.all_ancestors.Given as goal

abbrev pub invariant-loop-entity : goal.invariant-loop-entity
invariant-loop-entity l = AllZip (IsRow l.table) (take l.entity-index l.table) l.rows.items
