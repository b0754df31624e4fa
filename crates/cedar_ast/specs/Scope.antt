-- The entity that a scope names, and scopes over other entities (Cedar language reference, policy scope).
use Rattle.std.specs.Prelude.{Option, Some, None}
use Rattle.cedar_ast.specs.declared.scope.EntityScope.{EntityScope}
use Rattle.cedar_ast.specs.declared.scope.EntityScope.TheVariants.{Any, Equal, In, Is, IsIn}

-- The entity that a scope names, if it names one (Cedar language reference, policy scope).
abbrev pub entity_in : {E : Type 0} → EntityScope E → Option E
entity_in Any = None
entity_in (Equal e) = Some e
entity_in (In e) = Some e
entity_in (Is ty) = None
entity_in (IsIn ty e) = Some e

-- A scope with what a function makes of the entity that it names (this project).
abbrev pub scope_map : {E F : Type 0} → (E → F) → EntityScope E → EntityScope F
scope_map f Any = Any
scope_map f (Equal e) = Equal (f e)
scope_map f (In e) = In (f e)
scope_map f (Is ty) = Is ty
scope_map f (IsIn ty e) = IsIn ty (f e)
