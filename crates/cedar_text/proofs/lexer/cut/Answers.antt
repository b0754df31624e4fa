use Rattle.std.proofs.Common.{sym, ap, ◌∙◌}
use Rattle.cedar_text.specs.Numbers.{number_in}
use Rattle.cedar_text.proofs.Boundaries.{cut_boundary}
use Rattle.cedar_text.proofs.TokenNumbers.{cut_number}
use Rattle.cedar_text.proofs.lexer.cut.Goals as goal

pub split_at-requires : goal.split_at-requires
split_at-requires c = cut_boundary c.args.source.now c.in_ok-piece.piece c.requires (rw c.as_bytes.ensures.value at c.in_ok-piece.ensures) c.utf8.source

pub returns-clause-number : goal.returns-clause-number
returns-clause-number c = λ some.
    cut_number c.args.source.now c.in_ok-piece.piece c.requires (rw c.as_bytes.ensures.value at c.in_ok-piece.ensures) some ∙ ap number_in (sym c.split_at.ensures.front)
