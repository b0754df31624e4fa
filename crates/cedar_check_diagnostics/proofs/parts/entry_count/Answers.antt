use Rattle.std.proofs.Common.{ℕ, List, option_map, ap, ◌∙◌, arith}
use Rattle.std.proofs.lemmas.Option.{slice_get_past}
use Rattle.cedar_ast_expressions.specs.Expression.{Expression}
use Rattle.cedar_check_diagnostics.proofs.PartLists.{value_at}
use Rattle.cedar_check_diagnostics.proofs.parts.entry_count.Goals as goal

pub returns : goal.returns
returns c n le = value_at c.args.pairs.now n ∙ ap (option_map (λ (p : List ℕ × Expression). p.1)) (slice_get_past c.args.pairs.now n (omega (arith, le)))
