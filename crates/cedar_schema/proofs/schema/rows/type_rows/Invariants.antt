use Rattle.cedar_schema.proofs.TypeLemmas.{AreJoining}
use Rattle.cedar_schema.proofs.schema.rows.type_rows.Given as goal

abbrev pub invariant-loop-uid : goal.invariant-loop-uid
invariant-loop-uid l = AreJoining l.types l.uid-iterator l.rows.entries
