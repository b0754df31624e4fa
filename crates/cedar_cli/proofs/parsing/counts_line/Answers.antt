use Rattle.std.proofs.Common.{◌∙◌, ℕ, List, [], ◌∷◌, ◌++◌, ap, refl}
use Rattle.base_lines.specs.Lines.{line_feed}
use Rattle.cedar_cli.specs.Parsing.{counts_data}
use Rattle.cedar_files.proofs.Texts.{text_alone}
use Rattle.cedar_cli.proofs.parsing.counts_line.Goals as goal

pub returns : goal.returns
returns c =
    c.in_ok-push.ensures.items
    ∙ ap (λ (u : List ℕ). u ++ line_feed ∷ [])
    (text_alone _ _ _ _ (counts_data c.args.policies c.args.templates) c.into_inner-line.ensures.items
    (rw (c.in_ok-write_counts.ensures.before, c.new-writer.ensures.before, c.new.ensures.items) refl)
    c.new-writer.ensures.tokens c.in_ok-write_counts.ensures.tokens)
