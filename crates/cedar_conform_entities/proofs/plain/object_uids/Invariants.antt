use Rattle.std.proofs.Common.{drop}
use Rattle.base_json.specs.LentObjects.{items_of_objects}
use Rattle.cedar_conform_entities.proofs.EntryLemmas.{AreUidsBut}
use Rattle.cedar_conform_entities.proofs.plain.object_uids.Given as goal

-- what was read, before what is left to read, is all
abbrev pub invariant-loop-object : goal.invariant-loop-object
invariant-loop-object l = AreUidsBut l.uids.items (items_of_objects (drop l.object-index l.objects)) (items_of_objects l.objects)
