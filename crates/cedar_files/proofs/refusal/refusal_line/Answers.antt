use Rattle.std.proofs.Common.{◌∙◌, ℕ, List, [], ◌∷◌, ◌++◌, ap, refl}
use Rattle.base_lines.specs.Lines.{line_feed}
use Rattle.cedar_files.specs.Refusal.{refusal_of}
use Rattle.cedar_files.proofs.Texts.{text_alone}
use Rattle.cedar_files.proofs.refusal.refusal_line.Goals as goal

pub returns : goal.returns
returns c =
    c.in_ok-push.ensures.items
    ∙ ap (λ (u : List ℕ). u ++ line_feed ∷ [])
    (text_alone _ _ _ _ (refusal_of c.args.role c.args.refusal.offset c.args.refusal.number) c.into_inner-line.ensures.items
    (rw (c.in_ok-write_refusal.ensures.before, c.new-writer.ensures.before, c.new.ensures.items) refl)
    c.new-writer.ensures.tokens c.in_ok-write_refusal.ensures.tokens)
