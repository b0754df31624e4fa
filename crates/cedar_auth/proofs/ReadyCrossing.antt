-- What is ready may cross threads: `Send` and `Sync` of its parts, and of the whole. Each part whole, since a `search` that goes down through all of them runs out of steps.
--     validated-send, validated-sync      of policies that are accepted
--     ready-send, ready-sync      of what is ready
use denote.RattleType.{RattleType}
use denote.Param.Send.{IsSend, IsSync, sendable}
use Rattle.std.proofs.Crossing.{crosses, frees, send, sync}
use Rattle.std.proofs.MapsCrossing.{crosses as maps}
use Rattle.std.proofs.MapsCrossingOver.{BTreeSet-send, BTreeSet-sync}
use Rattle.std.specs.contracts.hash.BuildHasherDefault as default
use Rattle.std.specs.contracts.hash.FoldHasher as fold
use Rattle.indexmap.proofs.map.IndexMap.TheSendSync as map
use Rattle.base_search.proofs.row.Row.TheSendSync as row
use Rattle.cedar_ext.proofs.decimal.Decimal.TheSendSync as decimal
use Rattle.cedar_ext.proofs.extension.Extension.TheSendSync as extension
use Rattle.cedar_ext.proofs.extension.ExtensionType.TheSendSync as extension_type
use Rattle.cedar_ext.proofs.method.BinaryMethod.TheSendSync as method
use Rattle.cedar_ext.proofs.unary_method.UnaryMethod.TheSendSync as unary_method
use Rattle.cedar_ext_ip.proofs.ip.Ip.TheSendSync as ip
use Rattle.cedar_ext_ip.proofs.ip_version.IpVersion.TheSendSync as ip_version
use Rattle.cedar_ext_time.proofs.datetime.Datetime.TheSendSync as datetime
use Rattle.cedar_ext_time.proofs.duration.Duration.TheSendSync as duration
use Rattle.cedar_value.proofs.name.Name.TheSendSync as name
use Rattle.cedar_value.proofs.text.Text.TheSendSync as text
use Rattle.cedar_value.proofs.uid.Uid.TheSendSync as uid
use Rattle.cedar_value.proofs.shared_text.SharedText.TheSendSync as shared
use Rattle.cedar_value.proofs.value.Value.TheLaws.TheKnot as value
use Rattle.cedar_value.specs.contracts.uid.Uid as Uid
use Rattle.cedar_value.specs.contracts.value.Value as Value
use Rattle.cedar_value.specs.contracts.value_record.Record as Record
use Rattle.cedar_value.specs.contracts.value_set.ValueSet as ValueSet
use Rattle.cedar_schema_types.specs.contracts.types.Type as TypeRow
use Rattle.cedar_schema_types.proofs.record_type.RecordType.TheLaws.TheKnot as types
use Rattle.cedar_schema_types.proofs.truth.Truth.TheSendSync as truth
use Rattle.cedar_auth_candidates.proofs.candidates.Candidates.TheSendSync as candidates
use Rattle.cedar_check_spec.proofs.settings.Settings.TheSendSync as settings
use Rattle.cedar_store.proofs.uid_hashing.UidHashing.TheSendSync as hashing
use Rattle.cedar_ast_expressions.specs.contracts.expression.Expr as Expr
use Rattle.cedar_ast_expressions.proofs.entries.Entries.TheLaws.TheKnot as expr
use Rattle.cedar_ast_expressions.proofs.operator.UnaryOperator.TheSendSync as unary
use Rattle.cedar_ast_expressions.proofs.operator.BinaryOperator.TheSendSync as binary
use Rattle.cedar_ast_expressions.proofs.variable.Variable.TheSendSync as variable
use Rattle.cedar_ast_expressions.proofs.keys.Keys.TheSendSync as keys
use Rattle.cedar_ast.proofs.annotation.Annotation.TheSendSync as annotation
use Rattle.cedar_ast.proofs.entity_reference.EntityReference.TheSendSync as reference
use Rattle.cedar_ast.proofs.scope.ActionScope.TheSendSync as action_scope
use Rattle.cedar_ast.proofs.scope.EntityScope.TheSendSync as entity_scope
use Rattle.cedar_ast.proofs.scope.Scope.TheSendSync as scope
use Rattle.cedar_ast.proofs.uids.Uids.TheSendSync as uids
use Rattle.cedar_ast.specs.contracts.policy_set.PolicySet as PolicySet
use Rattle.cedar_ast.specs.contracts.policy.PolicyOver as Over
use Rattle.cedar_ast.specs.contracts.scope.Scope as Scope
use Rattle.cedar_ast.specs.contracts.entity_reference.EntityReference as Reference
use Rattle.cedar_schema.specs.contracts.schema.Schema as Schema
use Rattle.cedar_store.proofs.ChangesCrossing.{map-send, map-sync}
use Rattle.cedar_store.specs.contracts.base.Base as Base
use Rattle.cedar_store.specs.contracts.store.Store as Store
use Rattle.cedar_code.specs.contracts.code.Code as Code
use Rattle.cedar_conjunctions.specs.contracts.conjunction.Conjunction as Conjunction
use Rattle.cedar_auth.specs.contracts.compiled.Compiled as Compiled
use Rattle.cedar_auth.specs.contracts.ready.Ready as Ready
use Rattle.cedar_auth.specs.contracts.validated.Validated as Validated

-- strings, names, uids, and values of extension types
ruleset names = (decimal.the_send, decimal.the_sync, ip.the_send, ip.the_sync, ip_version.the_send, ip_version.the_sync, ip_version.the_field_send, ip_version.the_field_sync, datetime.the_send, datetime.the_sync, duration.the_send, duration.the_sync, extension.the_send, extension.the_sync, extension.the_field_send, extension.the_field_sync, extension_type.the_send, extension_type.the_sync, extension_type.the_field_send, extension_type.the_field_sync, text.the_send, text.the_sync, shared.the_send, shared.the_sync, name.the_send, name.the_sync, uid.the_send, uid.the_sync, uid.the_field_send, uid.the_field_sync)

-- what stands in an expression or a code beside values
ruleset words = (unary.the_send, unary.the_sync, unary.the_field_send, unary.the_field_sync, binary.the_send, binary.the_sync, binary.the_field_send, binary.the_field_sync, variable.the_send, variable.the_sync, variable.the_field_send, variable.the_field_sync, keys.the_send, keys.the_sync, method.the_send, method.the_sync, method.the_field_send, method.the_field_sync, unary_method.the_send, unary_method.the_sync, unary_method.the_field_send, unary_method.the_field_sync)

value-send : IsSend Value.the_row
value-send = search (value.send-Value, names, sendable, crosses) depth 40

value-sync : IsSync Value.the_row
value-sync = search (value.sync-Value, names, sendable, crosses) depth 40

record-send : IsSend Record.the_row
record-send = search (value.send-Record, names, sendable, crosses) depth 40

record-sync : IsSync Record.the_row
record-sync = search (value.sync-Record, names, sendable, crosses) depth 40

members-send : IsSend ValueSet.the_row
members-send = search (value.send-ValueSet, names, sendable, crosses) depth 40

members-sync : IsSync ValueSet.the_row
members-sync = search (value.sync-ValueSet, names, sendable, crosses) depth 40

expr-send : IsSend Expr.the_row
expr-send = let v = value-send in search (expr.send-Expr, names, words, sendable, crosses) depth 40

expr-sync : IsSync Expr.the_row
expr-sync = let v = value-sync in search (expr.sync-Expr, names, words, sendable, crosses) depth 40

module _ (S : RattleType) where
  policy-send : IsSend S → IsSend (Over.the_row S)
  policy-send s =
      let e = expr-send in
      let y = expr-sync in
      search (annotation.the_send, names, sendable, crosses) depth 40

  policy-sync : IsSync S → IsSync (Over.the_row S)
  policy-sync s =
      let e = expr-send in
      let y = expr-sync in
      search (annotation.the_sync, names, sendable, crosses) depth 40

module _ (E : RattleType) where
  scope-send : IsSend E → IsSend (Scope.the_row E Uid.the_row)
  scope-send e = search (scope.the_send, entity_scope.the_send, action_scope.the_send, uids.the_send, names, sendable, crosses) depth 40

  scope-sync : IsSync E → IsSync (Scope.the_row E Uid.the_row)
  scope-sync e = search (scope.the_sync, entity_scope.the_sync, action_scope.the_sync, uids.the_sync, names, sendable, crosses) depth 40

set-send : IsSend PolicySet.the_row
set-send =
    let p = policy-send _ (scope-send Uid.the_row (search (names, sendable) depth 20)) in
    let t = policy-send _ (scope-send Reference.the_row (search (reference.the_send, names, sendable) depth 20)) in
    let h : IsSend (default.the_row fold.the_row) = search sendable depth 20 in
    search (map.the_send, maps, frees, send, sendable) depth 20

set-sync : IsSync PolicySet.the_row
set-sync =
    let p = policy-sync _ (scope-sync Uid.the_row (search (names, sendable) depth 20)) in
    let t = policy-sync _ (scope-sync Reference.the_row (search (reference.the_sync, names, sendable) depth 20)) in
    let h : IsSync (default.the_row fold.the_row) = search sendable depth 20 in
    search (map.the_sync, maps, sync, sendable) depth 20

type-send : IsSend TypeRow.the_row
type-send = search (types.send-Type, truth.the_send, names, sendable, crosses) depth 40

type-sync : IsSync TypeRow.the_row
type-sync = search (types.sync-Type, truth.the_sync, names, sendable, crosses) depth 40

schema-send : IsSend Schema.the_row
schema-send =
    let t = type-send in
    search (row.the_send, names, sendable, crosses, maps, BTreeSet-send, send) depth 40

schema-sync : IsSync Schema.the_row
schema-sync =
    let t = type-sync in
    search (row.the_sync, names, sendable, crosses, maps, BTreeSet-sync, sync) depth 40

base-send : IsSend Base.the_row
base-send =
    let r = record-send in
    search (map.the_send, hashing.the_send, row.the_send, names, sendable, crosses, send) depth 40

base-sync : IsSync Base.the_row
base-sync =
    let r = record-sync in
    search (map.the_sync, hashing.the_sync, row.the_sync, names, sendable, crosses, sync) depth 40

store-send : IsSend Store.the_row
store-send =
    let b = base-send in
    let c = base-sync in
    let m = map-send record-send record-sync in
    search (map.the_send, map.the_sync, hashing.the_send, hashing.the_sync, row.the_send, names, sendable, crosses, maps, BTreeSet-send, BTreeSet-sync, send, sync) depth 40

store-sync : IsSync Store.the_row
store-sync =
    let b = base-send in
    let c = base-sync in
    let m = map-sync record-send record-sync in
    search (map.the_send, map.the_sync, hashing.the_send, hashing.the_sync, row.the_sync, names, sendable, crosses, maps, BTreeSet-send, BTreeSet-sync, send, sync) depth 40

code-send : IsSend Code.the_row
code-send =
    let v = value-send in
    let m = members-send in
    search (names, words, sendable, crosses) depth 40

code-sync : IsSync Code.the_row
code-sync =
    let v = value-sync in
    let m = members-sync in
    search (names, words, sendable, crosses) depth 40

conjunction-send : IsSend Conjunction.the_row
conjunction-send = let v = value-send in search (names, words, sendable, crosses) depth 40

conjunction-sync : IsSync Conjunction.the_row
conjunction-sync = let v = value-sync in search (names, words, sendable, crosses) depth 40

compiled-send : IsSend Compiled.the_row
compiled-send =
    let c = code-send in
    let d = conjunction-send in
    search (sendable, crosses) depth 20

compiled-sync : IsSync Compiled.the_row
compiled-sync =
    let c = code-sync in
    let d = conjunction-sync in
    search (sendable, crosses) depth 20

pub validated-send : IsSend Validated.the_row
validated-send =
    let s = schema-send in
    let p = set-send in
    let c = compiled-send in
    search (settings.the_field_send, text.the_send, sendable, crosses) depth 20

pub validated-sync : IsSync Validated.the_row
validated-sync =
    let s = schema-sync in
    let p = set-sync in
    let c = compiled-sync in
    search (settings.the_field_sync, text.the_sync, sendable, crosses) depth 20

pub ready-send : IsSend Ready.the_row
ready-send =
    let v = validated-send in
    let w = validated-sync in
    let s = store-send in
    search (candidates.the_send, candidates.the_sync, sendable, crosses) depth 20

pub ready-sync : IsSync Ready.the_row
ready-sync =
    let v = validated-send in
    let w = validated-sync in
    let s = store-sync in
    search (candidates.the_send, candidates.the_sync, sendable, crosses) depth 20
