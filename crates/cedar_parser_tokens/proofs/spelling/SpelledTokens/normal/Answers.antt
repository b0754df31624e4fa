use Rattle.std.proofs.Common.{◌∙◌, List, sym, ap, subst}
use Rattle.cedar_text.specs.declared.token.Token.{Token}
use Rattle.cedar_text.specs.Lexeme.{Lexemes, lexemes}
use Rattle.cedar_text.specs.Normal.{normal}
use Rattle.cedar_parser_tokens.specs.Marks.{AreMarks}
use Rattle.cedar_parser_tokens.specs.Private.Spells.{Spells, marks_with}
use Rattle.cedar_parser_tokens.proofs.SpellsLemmas.{are_marks, marked_tokens}
use Rattle.cedar_parser_tokens.proofs.spelling.SpelledTokens.normal.Goals as goal

pub returns : goal.returns
returns c ts marks =
    let found = lexemes c.in_ok-tokens.tokens.items in
    let ls = c.in_ok-strings.strings.items in
    let spells : Spells found ls = subst (λ (us : List Token). Spells (lexemes us) ls) c.deref-2.ensures.value c.in_ok-strings.ensures in
    let own = marked_tokens ts (lexemes c.self.inside.tokens.items) c.self.inside.strings.items (subst (AreMarks ts) (sym c.self.view_is) marks) in
    subst (λ (us : Lexemes). AreMarks us (marks_with found ls)) (c.in_ok-tokens.ensures ∙ ap (λ (us : List Token). normal (lexemes us)) c.deref.ensures.value ∙ ap normal (sym own)) (are_marks found ls spells)
