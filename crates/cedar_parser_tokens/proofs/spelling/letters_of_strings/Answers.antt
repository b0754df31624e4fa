use Rattle.std.proofs.Common.{[], List, Vec, take, ap, sym, subst, ◌∙◌}
use Rattle.std.specs.Global.{Global}
use Rattle.cedar_text.specs.declared.letter.Letter.{Letter}
use Rattle.cedar_text.specs.Lexeme.{lexemes}
use Rattle.cedar_parser_tokens.specs.Private.Spells.{Spells, none}
use Rattle.cedar_parser_tokens.proofs.SpellsLemmas.{turn_string, turn_other}
use Rattle.cedar_parser_tokens.proofs.spelling.letters_of_strings.Goals.{then-eq+in_ok-read+in_ok-push, else-eq}
use Rattle.cedar_parser_tokens.proofs.spelling.letters_of_strings.Goals as goal

pub loop-token-init : goal.loop-token-init
loop-token-init c = subst (λ (xs : List (List Letter)). Spells [] xs) (sym c.in_ok-found.ensures.items) none

pub loop-token-preserved : goal.loop-token-preserved
loop-token-preserved c = elim c.if-eq.branch [
  | then-eq+in_ok-read+in_ok-push w ↦
      turn_string c.args.tokens.now c.loop-token.token-index _ _ c.if-eq.found.items w.in_ok-read.field-0 c.loop-token-test.true (sym c.eq.ensures ∙ w.if-eq.true)
      w.in_ok-read.ensures c.loop-token.invariant
      (ap (λ (v : Vec (List Letter) Global). v.items) w.found-is ∙ w.in_ok-push.ensures.items)
  | else-eq w ↦
      turn_other c.args.tokens.now c.loop-token.token-index _ c.if-eq.found.items c.loop-token-test.true (sym c.eq.ensures ∙ w.if-eq.false)
      (subst (λ (v : Vec (List Letter) Global). Spells (lexemes (take c.loop-token.token-index c.args.tokens.now)) v.items) (sym w.found-is) c.loop-token.invariant)
]
