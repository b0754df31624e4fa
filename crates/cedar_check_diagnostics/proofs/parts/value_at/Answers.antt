use Rattle.std.proofs.Common.{ℕ, List, option_map, ap, sym, ◌∙◌}
use Rattle.std.specs.Prelude.{option_copied}
use Rattle.cedar_ast_expressions.specs.Expression.{Expression}
use Rattle.cedar_check_diagnostics.proofs.PartLists.{value_at}
use Rattle.cedar_check_diagnostics.proofs.parts.value_at.Goals as goal

pub returns-in-Some : goal.returns-in-Some
returns-in-Some c =
    ap (option_map (λ (p : List ℕ × Expression). p.1)) (ap option_copied (sym c.in-Some.is) ∙ c.nth_pair.ensures)
    ∙ sym (value_at c.args.pairs.now c.args.number)

pub returns-in-None : goal.returns-in-None
returns-in-None c =
    ap (option_map (λ (p : List ℕ × Expression). p.1)) (ap option_copied (sym c.in-None.is) ∙ c.nth_pair.ensures)
    ∙ sym (value_at c.args.pairs.now c.args.number)
