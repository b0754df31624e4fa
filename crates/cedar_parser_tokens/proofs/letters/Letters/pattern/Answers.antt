use Rattle.std.proofs.Common.{ℕ, List, map, ap, sym, ◌∙◌}
use Rattle.cedar_ext.specs.declared.pattern.Element.TheVariants.{Character}
use Rattle.cedar_parser_tokens.specs.Marks.{pattern_of}
use Rattle.cedar_parser_tokens.specs.Private.Kept.{letters_in}
use Rattle.cedar_parser_tokens.proofs.OwnLetters.{own_pattern}
use Rattle.cedar_parser_tokens.proofs.letters.Letters.pattern.Goals as goal

pub returns-in_ok-plain_elements-in-Plain : goal.returns-in_ok-plain_elements-in-Plain
returns-in_ok-plain_elements-in-Plain c =
    c.new.ensures ∙ c.in_ok-plain_elements-in-Plain.ensures ∙ ap (λ (bs : List ℕ). map Character bs) c.as_bytes.ensures.value ∙ own_pattern c.in-Plain.text.now
    ∙ ap (λ k. pattern_of (letters_in k)) (sym c.in-Plain.is) ∙ ap pattern_of c.self.view_is
