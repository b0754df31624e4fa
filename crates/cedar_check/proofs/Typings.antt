-- What the function of typing answers is a typing of the rules.
use Rattle.std.proofs.Common.{◌≡◌, Option, Some, None, sym}
use Rattle.cedar_ast_expressions.specs.Expression.{Expression}
use Rattle.cedar_schema_spec.specs.declared.environment.Environment.{Environment}
use Rattle.cedar_schema_spec.specs.SchemaTree.{SchemaTree}
use Rattle.cedar_check_spec.specs.Capabilities.{Capabilities}
use Rattle.cedar_check_spec.specs.Rows.{Typed}
use Rattle.cedar_check_spec.specs.Private.Checking.{type_of_with}
use Rattle.cedar_check_spec.specs.declared.settings.Settings.{Settings}
use Rattle.cedar_check_law.proofs.Exact.{found_is_typed, typed_is_found}
use Rattle.cedar_check.specs.Typings.{IsTypingOf}

pub answered : (settings : Settings) (s : SchemaTree) (env : Environment) (held : Capabilities) (e : Expression) (typing : Option Typed)
    → typing ≡ type_of_with settings s env held e → IsTypingOf settings s env held e typing
answered settings s env held e (Some x) p = found_is_typed settings s env held e x (sym p)
answered settings s env held e None p = λ t gained d. let a = typed_is_found settings s env held gained e t d in let q = a.given in cc
