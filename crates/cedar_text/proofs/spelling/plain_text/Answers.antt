use Rattle.std.proofs.Common.{rules, arith, ◌≡◌, ◌<◌, refl, false, length, get_or}
use Rattle.std.proofs.lemmas.Bool.{false≢true, false_from_ne_true}
use Rattle.std.proofs.lemmas.Grind.{common_steps}
use Rattle.cedar_text.specs.declared.letter.Letter.TheVariants.{Character}
use Rattle.cedar_text.specs.Letters.{is_plain}
use Rattle.cedar_text.proofs.Unescaping.{star_turn, starred, stands}
use Rattle.cedar_text.proofs.spelling.plain_text.Goals as goal

pub returns-in_default : goal.returns-in_default
returns-in_default c =
    let letters = c.args.letters.now in
    let letter = get_or letters c.loop-letter.letter-index (Character 0) in
    let escaped : is_plain letter ≡ false = false_from_ne_true _ (λ e. false≢true (c.in_default.ensures.plain.1 e)) in
    let within : c.loop-letter.letter-index < length letters = first_of (search rules, grind (arith, common_steps)) in
    starred letters (star_turn letters c.loop-letter.letter-index letter (Character 0) _ within refl escaped c.loop-letter.invariant.1)

pub returns : goal.returns
returns c = stands c.args.letters.now c.loop-letter.letter-index _ (omega arith) c.loop-letter.invariant.0 c.loop-letter.invariant.1
