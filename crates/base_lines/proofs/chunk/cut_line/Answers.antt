use Rattle.std.proofs.Common.{◌≡◌, ◌==◌, ◌-◌, ◌+◌, ◌++◌, ◌∷◌, ℕ, List, length, take, drop, ap, sym, ◌∙◌, arith}
use Rattle.std.proofs.lemmas.Bool.{eqb-true}
use Rattle.std.proofs.lemmas.List.{take_all, length-drop}
use Rattle.base_lines.specs.Lines.{line_feed}
use Rattle.base_lines.proofs.Cuts.{cut_at, piece_before, whole_piece}
use Rattle.base_lines.proofs.chunk.cut_line.Goals as goal

pub returns-in-None : goal.returns-in-None
returns-in-None c = whole_piece c.args.bytes.now (λ k less e. c.in-None.ensures k (omega arith) less (ap (λ b. b == line_feed) e))

pub returns-in-Some : goal.returns-in-Some
returns-in-Some c =
    let bytes = c.args.bytes.now in
    let end = c.in-Some.end in
    let found = c.in-Some.ensures.0 in
    let before = piece_before bytes end (omega (arith, found.high)) (λ k less e. found.before k (omega arith) less (ap (λ b. b == line_feed) e)) in
    let cut = cut_at bytes end found.high (eqb-true _ line_feed c.in-Some.ensures.1) in
    let after : drop (end + 1) bytes ≡ take (length bytes - (end + 1)) (drop (end + 1) bytes) = sym (take_all _ (drop (end + 1) bytes) (omega (arith, length-drop (end + 1) bytes))) in
    (before, cut ∙ ap (λ (xs : List ℕ). take end bytes ++ line_feed ∷ xs) after)
