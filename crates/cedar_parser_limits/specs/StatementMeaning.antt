-- The policy or template that a statement is (Cedar language reference, policies; policy templates).
use Rattle.std.specs.Prelude.{ℕ, ◌+◌, Bool, true, false, ◌||◌, List, [], ◌∷◌, ◌++◌, Option, Some, None, map, codes, decimal, unwrap_or, if◌then◌else◌}
use Rattle.std.specs.Str.{bytes_eq}
use Rattle.cedar_value.specs.declared.uid.Uid.{Uid}
use Rattle.cedar_ast.specs.declared.annotation.Annotation.{Annotation}
use Rattle.cedar_ast.specs.declared.condition.Condition.{Condition}
use Rattle.cedar_ast.specs.declared.scope.EntityScope.{EntityScope}
use Rattle.cedar_ast.specs.declared.scope.EntityScope.TheVariants as entity_scope
use Rattle.cedar_ast.specs.declared.scope.ActionScope.{ActionScope}
use Rattle.cedar_ast.specs.declared.scope.ActionScope.TheVariants as action_scope
use Rattle.cedar_ast.specs.declared.scope.Scope.{Scope}
use Rattle.cedar_ast.specs.Scope.{scope_map}
use Rattle.cedar_ast.specs.declared.entity_reference.EntityReference.{EntityReference}
use Rattle.cedar_ast.specs.declared.entity_reference.EntityReference.TheVariants as entity_reference
use Rattle.cedar_ast.specs.declared.statement.Statement.{Statement}
use Rattle.cedar_ast.specs.declared.statement.Statement.TheVariants as statement
use Rattle.cedar_ast.specs.PolicyTree.{PolicyTree}
use Rattle.cedar_ast.specs.PolicyTree.{TemplateTree}
use Rattle.cedar_ast.specs.PolicySetTree.{PolicySetTree, entered}
use Rattle.cedar_parser_tokens.specs.Content.{Content, text_of}
use Rattle.cedar_parser_tokens.specs.Names.{to_uid}
use Rattle.cedar_parser_limits.specs.Meaning.{to_expression}
use Rattle.cedar_parser_tree.specs.declared.written_statement.Reference.{Reference}
use Rattle.cedar_parser_tree.specs.declared.written_statement.Reference.TheVariants as reference
use Rattle.cedar_parser_tree.specs.declared.written_statement.WrittenAnnotation.{WrittenAnnotation}
use Rattle.cedar_parser_tree.specs.declared.written_statement.WrittenCondition.{WrittenCondition}
use Rattle.cedar_parser_tree.specs.StatementTree.{StatementTree, WrittenScope, WrittenEntityScope, WrittenActionScope}

-- ---- scopes

-- The uid that a reference of a policy is; a policy has no slot, and for the size of a template's condition a slot counts as a
-- literal (own).
abbrev pub to_entity : Reference → Uid
to_entity (reference.Entity u) = to_uid u
to_entity (reference.Slot at x) = record { ty = []; id = [] }

-- What a reference of a template is: a uid or the slot (Cedar language reference, policy templates).
abbrev pub to_reference : Reference → EntityReference
to_reference (reference.Entity u) = entity_reference.Entity (to_uid u)
to_reference (reference.Slot at x) = entity_reference.Slot

-- The scope of the action of a policy or a template (Cedar language reference, policies).
abbrev pub to_action_scope : WrittenActionScope → ActionScope Uid
to_action_scope action_scope.Any = action_scope.Any
to_action_scope (action_scope.Equal u) = action_scope.Equal (to_uid u)
to_action_scope (action_scope.In u) = action_scope.In (to_uid u)
to_action_scope (action_scope.InSet us) = action_scope.InSet (map to_uid us)

-- A scope, with what a function makes of each reference to the principal and the resource (this project).
abbrev pub scope_over : {E : Type 0} → (Reference → E) → WrittenScope → Scope E Uid
scope_over f s = record { principal = scope_map f s.principal; action = to_action_scope s.action; resource = scope_map f s.resource }

-- The scope of a policy (Cedar language reference, policies).
abbrev pub to_scope : WrittenScope → Scope Uid Uid
to_scope = scope_over to_entity

-- The scope of a template (Cedar language reference, policy templates).
abbrev pub to_template_scope : WrittenScope → Scope EntityReference Uid
to_template_scope = scope_over to_reference

-- Whether a reference is a slot (Cedar language reference, policy templates).
abbrev pub is_slot : Reference → Bool
is_slot (reference.Entity u) = false
is_slot (reference.Slot at x) = true

-- Whether the scope of the principal or the resource has a slot (Cedar language reference, policy templates).
abbrev pub asks_slot : WrittenEntityScope → Bool
asks_slot (entity_scope.Equal q) = is_slot q
asks_slot (entity_scope.In q) = is_slot q
asks_slot (entity_scope.IsIn ty q) = is_slot q
asks_slot _ = false

-- Whether the scope of a statement has a slot (Cedar language reference, policy templates).
abbrev pub has_slot : WrittenScope → Bool
has_slot s = asks_slot s.principal || asks_slot s.resource

-- ---- statements

-- The annotation that is written (Cedar language reference, annotations).
abbrev pub to_annotation : WrittenAnnotation → Annotation
to_annotation a = record { name = a.name; value = text_of a.value }

-- The condition that is written (Cedar language reference, policies).
abbrev pub to_condition : WrittenCondition → Condition
to_condition c = record { kind = c.kind; body = to_expression c.body }

-- The policy of this id that a statement is, where its scope has no slot (Cedar language reference, policies).
abbrev pub to_policy : List ℕ → StatementTree → PolicyTree
to_policy id s = record { id = id; annotations = map to_annotation s.annotations; effect = s.effect; scope = to_scope s.scope; conditions = map to_condition s.conditions }

-- The template of this id that a statement is, where its scope has a slot (Cedar language reference, policy templates).
abbrev pub to_template : List ℕ → StatementTree → TemplateTree
to_template id s = record { id = id; annotations = map to_annotation s.annotations; effect = s.effect; scope = to_template_scope s.scope; conditions = map to_condition s.conditions }

-- The policy or template of this id that a statement is: a statement with a slot is a template (Cedar language reference,
-- policy templates).
abbrev pub to_statement : List ℕ → StatementTree → Statement
to_statement id s = if has_slot s.scope then statement.Template (to_template id s) else statement.Policy (to_policy id s)

-- The value of the annotation `id` as it is written, if there is one (own).
abbrev pub id_in : List WrittenAnnotation → Option Content
id_in [] = None
id_in (a ∷ xs) = if bytes_eq a.name (codes "id") then Some a.value else id_in xs

-- The id of the statement at a position from 0 as it is written: the value of its annotation `id`, else `policyN`. There is
-- none where the annotation denotes no string (own).
abbrev pub written_id : ℕ → StatementTree → Content
written_id n s = unwrap_or (id_in s.annotations) (Some (codes "policy" ++ decimal n))

-- The ids of statements as they are written, the first of which is at this position (own).
abbrev pub written_ids_from : ℕ → List StatementTree → List Content
written_ids_from n [] = []
written_ids_from n (s ∷ ss) = written_id n s ∷ written_ids_from (n + 1) ss

-- The id of the statement at a position from 0 (own).
abbrev pub id_at : ℕ → StatementTree → List ℕ
id_at n s = text_of (written_id n s)

-- The policy or template that the statement at a position from 0 is (own).
abbrev pub statement_of : ℕ → StatementTree → Statement
statement_of n s = to_statement (id_at n s) s

-- The set after the policies and templates of statements are entered, one after another. The first statement is at this
-- position (own).
abbrev pub entered_from : PolicySetTree → ℕ → List StatementTree → PolicySetTree
entered_from set n [] = set
entered_from set n (s ∷ ss) = entered_from (entered set (statement_of n s)) (n + 1) ss

-- The ids of statements, the first of which is at this position (own).
abbrev pub ids_from : ℕ → List StatementTree → List (List ℕ)
ids_from n ss = map text_of (written_ids_from n ss)
