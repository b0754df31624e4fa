-- The grammar of policy texts.
--
--     Text      = { Statement }
--     Statement = { "@" ANYIDENT "(" STR ")" } ("permit" | "forbid")
--                 "(" Principal "," Action "," Resource ")" { ("when" | "unless") "{" Expr "}" } ";"
--     Principal = "principal" [ "==" Ref | "in" Ref | "is" Path [ "in" Ref ] ]
--     Resource  = "resource"  [ the same ]
--     Action    = "action" [ "==" Entity | "in" Entity | "in" "[" [ Entity { "," Entity } ] "]" ]
--     Ref       = Entity | SLOT
--
-- (Cedar language reference, grammar)
use Rattle.std.specs.Prelude.{◌≡◌, ℕ, true, List, [], ◌∷◌, ◌++◌, Option, Some, None, codes, if◌then◌else◌}
use Rattle.std.specs.Str.{bytes_eq}
use Rattle.cedar_ast_expressions.specs.declared.variable.Variable.{Variable}
use Rattle.cedar_ast.specs.declared.effect.Effect.{Effect}
use Rattle.cedar_ast.specs.declared.effect.Effect.TheVariants.{Permit, Forbid}
use Rattle.cedar_ast.specs.declared.condition.ConditionKind.{ConditionKind}
use Rattle.cedar_ast.specs.declared.condition.ConditionKind.TheVariants.{When, Unless}
use Rattle.cedar_text.specs.declared.token_kind.TokenKind.TheVariants as k
use Rattle.cedar_parser_tokens.specs.Marks.{Mark, Marks, start_of}
use Rattle.cedar_parser_tokens.specs.Names.{Takes, Text, Path, Entity, is_word_kind}
use Rattle.cedar_parser_expressions.specs.Grammar.{Arguments, slot_of, Nested}
use Rattle.cedar_parser_tokens.specs.Content.{Content}
use Rattle.cedar_parser_tree.specs.Written.{Written}
use Rattle.cedar_parser_tokens.specs.declared.content.WrittenUid.{WrittenUid}
use Rattle.cedar_parser_tree.specs.declared.written_statement.Reference.{Reference}
use Rattle.cedar_parser_tree.specs.declared.written_statement.Reference.TheVariants as reference
use Rattle.cedar_parser_tree.specs.declared.written_statement.WrittenAnnotation.{WrittenAnnotation}
use Rattle.cedar_parser_tree.specs.declared.written_statement.WrittenCondition.{WrittenCondition}
use Rattle.cedar_ast.specs.declared.scope.EntityScope.TheVariants as entity_scope
use Rattle.cedar_ast.specs.declared.scope.ActionScope.TheVariants as action_scope
use Rattle.cedar_parser_tree.specs.StatementTree.{StatementTree, WrittenScope, WrittenEntityScope, WrittenActionScope}

-- ---- annotations

-- An annotation: "@" ANYIDENT "(" STR ")" (Cedar language reference, grammar: Annotation).
pub data Annotation : Marks → WrittenAnnotation → Marks → Type 0 where
  annotation : {ts us vs ws xs ys : Marks} {p t l r : Mark} {c : Content} → Takes k.At p ts us → us ≡ t ∷ vs → is_word_kind t.kind ≡ true → Takes k.LeftParen l vs ws → Text ws c xs
      → Takes k.RightParen r xs ys → Annotation ts (record { start = p.start; name = t.text; value = c }) ys

-- Annotations, or none: { Annotation } (Cedar language reference, grammar: Policy).
pub data Annotations : Marks → List WrittenAnnotation → Marks → Type 0 where
  none : {ts : Marks} → Annotations ts [] ts
  more : {ts us vs : Marks} {xs : List WrittenAnnotation} {a : WrittenAnnotation} → Annotations ts xs us → Annotation us a vs → Annotations ts (xs ++ a ∷ []) vs

-- ---- scopes

-- The tokens ts are an identifier of this text and then us (own).
pub data Word (word : List ℕ) : Marks → Marks → Type 0 where
  word : {ts us : Marks} {t : Mark} → Takes k.Identifier t ts us → t.text ≡ word → Word word ts us

-- What a scope compares with, as it is written: Entity | SLOT (Cedar language reference, grammar: Entity, SLOT).
pub data References : Marks → Reference → Marks → Type 0 where
  entity : {ts us : Marks} {u : WrittenUid} → Entity ts u us → References ts (reference.Entity u) us
  slot : {ts us : Marks} {t : Mark} {x : Variable} → Takes k.Slot t ts us → slot_of t.text ≡ Some x → References ts (reference.Slot t.start x) us

-- The scope of the principal or the resource, which begins with this name: name [ "==" Ref | "in" Ref | "is" Path [ "in" Ref ]
-- ] (Cedar language reference, grammar: Principal, Resource).
pub data EntityScopes (name : List ℕ) : Marks → WrittenEntityScope → Marks → Type 0 where
  any : {ts us : Marks} → Word name ts us → EntityScopes name ts entity_scope.Any us
  equal : {ts us vs ws : Marks} {t : Mark} {q : Reference} → Word name ts us → Takes k.Equal t us vs → References vs q ws → EntityScopes name ts (entity_scope.Equal q) ws
  within : {ts us vs ws : Marks} {t : Mark} {q : Reference} → Word name ts us → Takes k.In t us vs → References vs q ws → EntityScopes name ts (entity_scope.In q) ws
  is : {ts us vs ws : Marks} {t : Mark} {ty : List ℕ} → Word name ts us → Takes k.Is t us vs → Path vs ty ws → EntityScopes name ts (entity_scope.Is ty) ws
  is_in : {ts us vs ws xs ys : Marks} {t i : Mark} {ty : List ℕ} {q : Reference} → Word name ts us → Takes k.Is t us vs → Path vs ty ws → Takes k.In i ws xs → References xs q ys
      → EntityScopes name ts (entity_scope.IsIn ty q) ys

-- The scope of the action: "action" [ "==" Entity | "in" Entity | "in" "[" [ Entity { "," Entity } ] "]" ] (Cedar language
-- reference, grammar: Action).
pub data ActionScopes : Marks → WrittenActionScope → Marks → Type 0 where
  any : {ts us : Marks} → Word (codes "action") ts us → ActionScopes ts action_scope.Any us
  equal : {ts us vs ws : Marks} {t : Mark} {u : WrittenUid} → Word (codes "action") ts us → Takes k.Equal t us vs → Entity vs u ws → ActionScopes ts (action_scope.Equal u) ws
  within : {ts us vs ws : Marks} {t : Mark} {u : WrittenUid} → Word (codes "action") ts us → Takes k.In t us vs → Entity vs u ws → ActionScopes ts (action_scope.In u) ws
  among : {ts us vs ws xs ys : Marks} {t l r : Mark} {list : List WrittenUid} → Word (codes "action") ts us → Takes k.In t us vs → Takes k.LeftBracket l vs ws → Arguments Entity ws list xs
      → Takes k.RightBracket r xs ys → ActionScopes ts (action_scope.InSet list) ys

-- The scope of a policy: "(" Principal "," Action "," Resource ")" (Cedar language reference, grammar: Scope).
pub data Scopes : Marks → WrittenScope → Marks → Type 0 where
  scope : {ts t1 t2 t3 t4 t5 t6 us : Marks} {l c d r : Mark} {p q : WrittenEntityScope} {a : WrittenActionScope} → Takes k.LeftParen l ts t1 → EntityScopes (codes "principal") t1 p t2
      → Takes k.Comma c t2 t3 → ActionScopes t3 a t4 → Takes k.Comma d t4 t5 → EntityScopes (codes "resource") t5 q t6 → Takes k.RightParen r t6 us
      → Scopes ts (record { principal = p; action = a; resource = q }) us

-- ---- statements

-- The effect that a word names: permit or forbid (Cedar language reference, grammar: Effect).
abbrev pub effect_of : List ℕ → Option Effect
effect_of name = if bytes_eq name (codes "permit") then Some Permit else (if bytes_eq name (codes "forbid") then Some Forbid else None)

-- The kind of condition that a word begins: when or unless (Cedar language reference, grammar: Condition).
abbrev pub condition_kind_of : List ℕ → Option ConditionKind
condition_kind_of name = if bytes_eq name (codes "when") then Some When else (if bytes_eq name (codes "unless") then Some Unless else None)

-- An expression in braces, with less than d brackets open at one place inside: "{" Expr "}" (Cedar language reference, grammar:
-- Condition; own in the limit).
pub data Block (d : ℕ) : Marks → Written → Marks → Type 0 where
  block : {ts us vs ws : Marks} {l r : Mark} {a : Written} → Takes k.LeftBrace l ts us → Nested d us a vs → Takes k.RightBrace r vs ws → Block d ts a ws

-- Conditions, or none: { ("when" | "unless") "{" Expr "}" } (Cedar language reference, grammar: Conditions).
pub data Conditions (d : ℕ) : Marks → List WrittenCondition → Marks → Type 0 where
  none : {ts : Marks} → Conditions d ts [] ts
  more : {ts us vs ws : Marks} {cs : List WrittenCondition} {t : Mark} {kind : ConditionKind} {a : Written} → Conditions d ts cs us → Takes k.Identifier t us vs
      → condition_kind_of t.text ≡ Some kind → Block d vs a ws → Conditions d ts (cs ++ record { kind = kind; body = a } ∷ []) ws

-- A policy or template with its annotations, effect, scope and conditions, and `;` (Cedar language reference, grammar: Policy).
pub data Statement (d : ℕ) : Marks → StatementTree → Marks → Type 0 where
  statement : {ts us vs ws xs ys : Marks} {t s : Mark} {notes : List WrittenAnnotation} {effect : Effect} {scope : WrittenScope} {cs : List WrittenCondition} → Annotations ts notes us
      → Takes k.Identifier t us vs → effect_of t.text ≡ Some effect → Scopes vs scope ws → Conditions d ws cs xs → Takes k.Semicolon s xs ys
      → Statement d ts (record { start = start_of ts; annotations = notes; effect = effect; scope = scope; conditions = cs }) ys

-- Statements, or none: { Statement } (Cedar language reference, grammar: Policy).
pub data Statements (d : ℕ) : Marks → List StatementTree → Marks → Type 0 where
  end : {ts : Marks} → Statements d ts [] ts
  next : {ts us vs : Marks} {s : StatementTree} {ss : List StatementTree} → Statement d ts s us → Statements d us ss vs → Statements d ts (s ∷ ss) vs
