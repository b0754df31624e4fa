use Rattle.std.proofs.Common.{List, subst}
use Rattle.cedar_text.specs.declared.token.Token.{Token}
use Rattle.cedar_text.specs.Lexeme.{lexemes}
use Rattle.cedar_parser_tokens.specs.Private.Spells.{Spells}
use Rattle.cedar_parser_tokens.proofs.MarkLemmas.{all_same}
use Rattle.cedar_parser_tokens.proofs.SpellsLemmas.{are_marks}
use Rattle.cedar_parser_tokens.proofs.spelling.spelled_tokens.Goals as goal

pub returns-clause-found : goal.returns-clause-found
returns-clause-found c =
    let ls = c.in_ok-strings.strings.items in
    let spells : Spells (lexemes c.in_ok-tokens.tokens.items) ls = subst (λ (ts : List Token). Spells (lexemes ts) ls) c.deref.ensures.value c.in_ok-strings.ensures in
    (lexemes c.in_ok-tokens.tokens.items, c.in_ok-tokens.ensures.found, are_marks _ _ spells)

pub returns-clause-only : goal.returns-clause-only
returns-clause-only c = λ ms i.
    let ls = c.in_ok-strings.strings.items in
    let spells : Spells (lexemes c.in_ok-tokens.tokens.items) ls = subst (λ (ts : List Token). Spells (lexemes ts) ls) c.deref.ensures.value c.in_ok-strings.ensures in
    all_same c.one_spelling.ensures (lexemes c.in_ok-tokens.tokens.items) _ ms c.in_ok-tokens.ensures.only (are_marks _ _ spells) i
