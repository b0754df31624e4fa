use Rattle.std.proofs.Common.{List, ℕ, option_map, sym, ap, ◌∙◌}
use Rattle.json.specs.Lex.{tokens}
use Rattle.serde_json.specs.Data.{item}
use Rattle.serde_json.specs.View.{view}
use Rattle.base_json.specs.Items.{to_come}
use Rattle.base_json.proofs.objects.ObjectReader.next.Goals as goal

pub returns-clause-items : goal.returns-clause-items
returns-clause-items c =
    let tree = view c.in-Some-2.item in
    let read = rw c.in-Some-2.is at c.in_ok-item.ensures in
    sym (ap to_come c.self.view_is) ∙ c.in-Some.ensures.items tree read ∙ ap (λ (bytes : List ℕ). option_map (item tree) (to_come (tokens bytes))) (sym c.in_ok-pass.ensures)
