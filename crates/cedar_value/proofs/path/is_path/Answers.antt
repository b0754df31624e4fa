use Rattle.std.proofs.Common.{◌≡◌, ◌∙◌, ℕ, Bool, true, false, List, [], length, sym, ap, subst}
use Rattle.std.specs.Bool.{◌==◌}
use Rattle.std.specs.List.{list_all}
use Rattle.cedar_value.specs.Names.{is_word_byte}
use Rattle.cedar_value.specs.Private.Words.{BeginsNoWord}
use Rattle.cedar_value.proofs.FirstWord.{no_identifier, goes_on, no_colons}
use Rattle.cedar_value.proofs.path.is_path.Goals as goal

not_empty : (others : List ℕ) (b : Bool) → b ≡ (length others == 0) → b ≡ false → others ≡ [] → ⊥
not_empty others b tells is none = let empty : b ≡ true = tells ∙ ap (λ (xs : List ℕ). length xs == 0) none in cc

pub returns-then-not-is_identifier : goal.returns-then-not-is_identifier
returns-then-not-is_identifier c =
    let cut = c.split_at.ensures.by_index.0 in
    let word = subst (λ (w : List ℕ). list_all is_word_byte w ≡ true) (sym c.split_at.ensures.front) c.word_length.ensures.word in
    let ends = subst BeginsNoWord (sym c.split_at.ensures.back) c.word_length.ensures.end in
    let bad = sym c.is_identifier.ensures ∙ c.if-not-is_identifier.true in
    (λ h. cc, λ name. absurd (no_identifier _ _ _ cut word ends bad (c.words.invariant.0 name)))

pub returns-in_default : goal.returns-in_default
returns-in_default c =
    let cut = c.split_at.ensures.by_index.0 in
    let word = subst (λ (w : List ℕ). list_all is_word_byte w ≡ true) (sym c.split_at.ensures.front) c.word_length.ensures.word in
    let ends = subst BeginsNoWord (sym c.split_at.ensures.back) c.word_length.ensures.end in
    let some = not_empty _ _ c.is_empty.ensures c.if-is_empty.false in
    (λ h. cc, λ name. absurd (no_colons _ _ _ cut word ends some c.in_default.ensures (c.words.invariant.0 name)))

pub words-preserved : goal.words-preserved
words-preserved c =
    let cut = c.split_at.ensures.by_index.0 in
    let word = subst (λ (w : List ℕ). list_all is_word_byte w ≡ true) (sym c.split_at.ensures.front) c.word_length.ensures.word in
    let ends = subst BeginsNoWord (sym c.split_at.ensures.back) c.word_length.ensures.end in
    let good = sym c.is_identifier.ensures ∙ c.if-not-is_identifier.false in
    let same = goes_on _ _ _ cut word ends _ c.in-Some.ensures good in
    (λ name. same.0 (c.words.invariant.0 name), λ name. c.words.invariant.1 (same.1 name))
