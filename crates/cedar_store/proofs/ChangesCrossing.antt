-- Changes may cross threads, where records of attributes may: `Send` and `Sync` of a map of changes.
--     map-send, map-sync      of a map, from those of a record
use denote.Param.Send.{IsSend, IsSync, sendable}
use denote.Param.SendFields.{declared_send, declared_sync}
use Rattle.std.proofs.Crossing.{crosses}
use Rattle.cedar_value.proofs.name.Name.TheSendSync as name
use Rattle.cedar_value.proofs.shared_text.SharedText.TheSendSync as shared
use Rattle.cedar_value.proofs.text.Text.TheSendSync as text
use Rattle.cedar_value.proofs.uid.Uid.TheSendSync as uid
use Rattle.cedar_value.specs.contracts.value_record.Record as Record
use Rattle.cedar_store.proofs.change_tree.ForkTree.TheLaws.TheKnot as tree
use Rattle.cedar_store.proofs.uid_hashing.UidHashing.TheSendSync as hashing
use Rattle.cedar_store.specs.contracts.change.Change as Change
use Rattle.cedar_store.specs.contracts.change_map.ChangeMap as ChangeMap
use Rattle.cedar_store.specs.contracts.change_tree.ForkTree as ForkTree

-- strings, names and uids
ruleset names = (text.the_send, text.the_sync, shared.the_send, shared.the_sync, name.the_send, name.the_sync, uid.the_send, uid.the_sync, uid.the_field_send, uid.the_field_sync)

module _ (record-send : IsSend Record.the_row) (record-sync : IsSync Record.the_row) where
  change-send : IsSend Change.the_row
  change-send = search (names, sendable, crosses) depth 40

  change-sync : IsSync Change.the_row
  change-sync = search (names, sendable, crosses) depth 40

  tree-send : IsSend ForkTree.the_row
  tree-send =
      let s = change-send in
      let y = change-sync in
      search (tree.both_send-ForkTree, sendable, crosses) depth 40

  tree-sync : IsSync ForkTree.the_row
  tree-sync =
      let s = change-send in
      let y = change-sync in
      search (tree.both_sync-ForkTree, sendable, crosses) depth 40

  -- a struct with a field of a recursive type goes by `declared_send`
  pub map-send : IsSend ChangeMap.the_row
  map-send = let t = tree-send in search (declared_send, hashing.the_send, sendable) depth 20

  pub map-sync : IsSync ChangeMap.the_row
  map-sync = let t = tree-sync in search (declared_sync, hashing.the_sync, sendable) depth 20
