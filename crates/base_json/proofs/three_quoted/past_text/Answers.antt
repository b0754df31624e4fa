use Rattle.std.proofs.Common.{◌++◌, ℕ, List, length, sym, ap₂, ◌∙◌}
use Rattle.std.proofs.lemmas.List.{take-append-drop}
use Rattle.std.proofs.lemmas.Slice.Eq.{bytes_eq-Decides}
use Rattle.base_json.proofs.three_quoted.past_text.Goals as goal

pub returns-then-eq : goal.returns-then-eq
returns-then-eq c =
    let text = c.args.text.now in
    let n = length c.args.wanted.now in
    let same = (bytes_eq-Decides c.in_ok-begun.begun.now c.args.wanted.now).0 (sym c.eq.ensures ∙ c.if-eq.true) in
    sym (take-append-drop n text) ∙ ap₂ (λ (a b : List ℕ). a ++ b) (sym c.in_ok-begun.ensures.front ∙ same) (sym c.in_ok-begun.ensures.back)
