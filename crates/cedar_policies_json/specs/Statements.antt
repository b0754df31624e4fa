-- The policy or template as it is written that a JSON denotes (Cedar documentation, JSON policy format).
use Rattle.std.specs.Prelude.{ℕ, ◌+◌, ◌==◌, List, [], ◌∷◌, codes, Option, Some, None, option_map, option_and_then, is_some, if◌then◌else◌}
use Rattle.std.specs.Str.{bytes_eq}
use Rattle.serde_json.specs.Data.{Data, null, string}
use Rattle.serde_json.specs.Find.{get, as_str, as_array, as_object}
use Rattle.cedar_value.specs.Names.{is_word}
use Rattle.cedar_ast.specs.declared.effect.Effect.{Effect}
use Rattle.cedar_ast.specs.declared.effect.Effect.TheVariants.{Permit, Forbid}
use Rattle.cedar_ast.specs.declared.condition.ConditionKind.{ConditionKind}
use Rattle.cedar_ast.specs.declared.condition.ConditionKind.TheVariants.{When, Unless}
use Rattle.cedar_ast.specs.declared.scope.EntityScope.TheVariants as entity
use Rattle.cedar_ast.specs.declared.scope.ActionScope.TheVariants as action
use Rattle.cedar_conform_values.specs.Objects.{size_of, text_at}
use Rattle.cedar_parser_tokens.specs.declared.content.WrittenUid.{WrittenUid}
use Rattle.cedar_parser_tree.specs.declared.written_statement.Reference.{Reference}
use Rattle.cedar_parser_tree.specs.declared.written_statement.Reference.TheVariants as reference
use Rattle.cedar_parser_tree.specs.declared.written_statement.WrittenAnnotation.{WrittenAnnotation}
use Rattle.cedar_parser_tree.specs.declared.written_statement.WrittenCondition.{WrittenCondition}
use Rattle.cedar_parser_tree.specs.StatementTree.{StatementTree, WrittenEntityScope, WrittenActionScope, WrittenScope}
use Rattle.cedar_policies_json.specs.Forms.{slot_named}
use Rattle.cedar_policies_json.specs.Expressions.{body_read}
use Rattle.cedar_policies_json.specs.Parts.{both, each_read, members_read, name_at, uid_read}

-- ---- scopes

-- The slot that a string names, as a reference (Cedar documentation, JSON policy format: slot).
abbrev pub slot_read : Data → Option Reference
slot_read d = option_map (reference.Slot 0) (option_and_then slot_named (as_str d))

-- What the object refers to at `entity`, or where it has no such key at `slot` (Cedar documentation, JSON policy format: principal,
-- resource).
abbrev pub reference_in : Option Data → Data → Option Reference
reference_in (Some d) scope = option_map reference.Entity (uid_read d)
reference_in None scope = option_and_then slot_read (get (codes "slot") scope)

-- The entity or the slot of an object (Cedar documentation, JSON policy format: principal, resource).
abbrev pub reference_at : Data → Option Reference
reference_at d = reference_in (get (codes "entity") d) d

-- What the object at `in` refers to: an object of exactly `entity` or `slot` (Cedar documentation, JSON policy format: principal,
-- resource).
abbrev pub inner_reference : Data → Option Reference
inner_reference d = if size_of d == 1 then reference_at d else None

-- What `is` requires: the type, or the type and what the entity is in (Cedar documentation, JSON policy format: principal,
-- resource).
abbrev pub is_scope_read : Data → Option WrittenEntityScope
is_scope_read d =
    if size_of d == 2 then option_map entity.Is (name_at (codes "entity_type") d)
    else (if size_of d == 3
    then option_map (λ p. entity.IsIn p.0 p.1) (both (name_at (codes "entity_type") d) (option_and_then inner_reference (get (codes "in") d))) else None)

-- What an object with this `op` requires of the principal or the resource (Cedar documentation, JSON policy format: principal,
-- resource).
unfoldable pub entity_scope_of : List ℕ → Data → Option WrittenEntityScope
entity_scope_of op d =
    if bytes_eq op (codes "All") then (if size_of d == 1 then Some entity.Any else None)
    else (if bytes_eq op (codes "==") then (if size_of d == 2 then option_map entity.Equal (reference_at d) else None)
    else (if bytes_eq op (codes "in") then (if size_of d == 2 then option_map entity.In (reference_at d) else None)
    else (if bytes_eq op (codes "is") then is_scope_read d else None)))

-- What a JSON requires of the principal or the resource (Cedar documentation, JSON policy format: principal, resource).
abbrev pub entity_scope_read : Data → Option WrittenEntityScope
entity_scope_read d = option_and_then (λ op. entity_scope_of op d) (text_at (codes "op") d)

-- What the action is in: the entity at `entity`, or where there is no such key one of those at `entities` (Cedar documentation, JSON
-- policy format: action).
abbrev pub action_in : Option Data → Data → Option WrittenActionScope
action_in (Some d) scope = option_map action.In (uid_read d)
action_in None scope = option_map action.InSet (option_and_then (each_read uid_read) (option_and_then as_array (get (codes "entities") scope)))

-- What an object with this `op` requires of the action (Cedar documentation, JSON policy format: action).
unfoldable pub action_scope_of : List ℕ → Data → Option WrittenActionScope
action_scope_of op d =
    if bytes_eq op (codes "All") then (if size_of d == 1 then Some action.Any else None)
    else (if bytes_eq op (codes "==") then (if size_of d == 2 then option_map action.Equal (option_and_then uid_read (get (codes "entity") d)) else None)
    else (if bytes_eq op (codes "in") then (if size_of d == 2 then action_in (get (codes "entity") d) d else None) else None))

-- What a JSON requires of the action (Cedar documentation, JSON policy format: action).
abbrev pub action_scope_read : Data → Option WrittenActionScope
action_scope_read d = option_and_then (λ op. action_scope_of op d) (text_at (codes "op") d)

-- The scope of an object at `principal`, `action` and `resource` (Cedar documentation, JSON policy format).
abbrev pub scope_read : Data → Option WrittenScope
scope_read d =
    option_map (λ p. record { principal = p.0; action = p.1.0; resource = p.1.1 })
    (both (option_and_then entity_scope_read (get (codes "principal") d))
    (both (option_and_then action_scope_read (get (codes "action") d)) (option_and_then entity_scope_read (get (codes "resource") d))))

-- ---- annotations, conditions

-- The value of an annotation: a string, or null for the empty one (Cedar documentation, JSON policy format: annotations).
abbrev pub annotation_value : Data → Option (List ℕ)
annotation_value null = Some []
annotation_value (string s) = Some s
annotation_value _ = None

-- An annotation, whose name is a word (Cedar documentation, JSON policy format: annotations; Cedar language reference, grammar:
-- ANYIDENT).
abbrev pub annotation_read : List ℕ → Data → Option WrittenAnnotation
annotation_read k d = if is_word k then option_map (λ s. record { start = 0; name = k; value = Some s }) (annotation_value d) else None

-- The annotations that are given, in the order of their names, none where the key is absent (Cedar documentation, JSON policy format: annotations).
abbrev pub annotations_read : Option Data → Option (List WrittenAnnotation)
annotations_read None = Some []
annotations_read (Some d) = option_and_then (members_read annotation_read) (as_object d)

-- The kind of condition that a string names (Cedar documentation, JSON policy format: conditions).
unfoldable pub kind_named : List ℕ → Option ConditionKind
kind_named s = if bytes_eq s (codes "when") then Some When else (if bytes_eq s (codes "unless") then Some Unless else None)

-- The condition of an object of exactly `kind` and `body` (Cedar documentation, JSON policy format: conditions).
abbrev pub condition_read : Data → Option WrittenCondition
condition_read d =
    if size_of d == 2
    then option_map (λ p. record { kind = p.0; body = p.1 }) (both (option_and_then kind_named (text_at (codes "kind") d)) (option_and_then body_read (get (codes "body") d)))
    else None

-- ---- statements

-- The effect that a string names (Cedar documentation, JSON policy format: effect).
unfoldable pub effect_named : List ℕ → Option Effect
effect_named s = if bytes_eq s (codes "permit") then Some Permit else (if bytes_eq s (codes "forbid") then Some Forbid else None)

-- How many keys a policy has: `annotations` may be absent (Cedar documentation, JSON policy format).
abbrev pub key_count : Data → ℕ
key_count d = if is_some (get (codes "annotations") d) then 6 else 5

-- The statement as it is written that an object denotes, of exactly `effect`, `principal`, `action`, `resource` and `conditions`, and
-- `annotations` where it has some (Cedar documentation, JSON policy format).
abbrev pub statement_read : Data → Option StatementTree
statement_read d =
    if size_of d == key_count d
    then option_map (λ p. record { start = 0; annotations = p.0; effect = p.1.0; scope = p.1.1.0; conditions = p.1.1.1 })
    (both (annotations_read (get (codes "annotations") d))
    (both (option_and_then effect_named (text_at (codes "effect") d))
    (both (scope_read d) (option_and_then (each_read condition_read) (option_and_then as_array (get (codes "conditions") d))))))
    else None
