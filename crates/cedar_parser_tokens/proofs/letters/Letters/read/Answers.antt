use Rattle.std.proofs.Common.{◌≡◌, ℕ, List, true, subst, sym, ◌∙◌}
use Rattle.std.specs.List.{list_all}
use Rattle.cedar_parser_tokens.specs.Private.Kept.{is_own_letter}
use Rattle.cedar_parser_tokens.proofs.OwnLetters.{own_written}
use Rattle.cedar_parser_tokens.proofs.letters.Letters.read.Goals as goal

pub returns : goal.returns
returns c =
    let plain = c.in-Some.plain.now in
    let own : list_all is_own_letter plain ≡ true = subst (λ (bs : List ℕ). list_all is_own_letter bs ≡ true) c.as_bytes.ensures.value (sym c.are_own_letters.ensures ∙ c.if-are_own_letters.true) in
    (plain, c.in-Some.ensures, own_written plain own)
