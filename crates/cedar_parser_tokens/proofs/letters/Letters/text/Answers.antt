use Rattle.std.proofs.Common.{Some, ap, subst, sym, ◌∙◌}
use Rattle.cedar_parser_tokens.specs.Marks.{content_of}
use Rattle.cedar_parser_tokens.specs.Private.Kept.{IsKept, letters_in}
use Rattle.cedar_parser_tokens.proofs.OwnLetters.{own_content}
use Rattle.cedar_parser_tokens.proofs.letters.Letters.text.Goals as goal

pub returns-in_ok-read-in-Plain : goal.returns-in_ok-read-in-Plain
returns-in_ok-read-in-Plain c =
    let own = subst IsKept c.in-Plain.is c.self.invariant in
    ap Some c.in_ok-read-in-Plain.ensures ∙ own_content c.in-Plain.text.now own ∙ ap (λ k. content_of (letters_in k)) (sym c.in-Plain.is) ∙ ap content_of c.self.view_is
