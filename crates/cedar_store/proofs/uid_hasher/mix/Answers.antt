use Rattle.std.proofs.Common.{◌≡◌, ℕ, suc, ◌+◌, ◌*◌, ◌/◌, ◌%◌, List, length, refl, ap, ap₂, ◌∙◌, arith, eq-eqb}
use Rattle.std.proofs.lemmas.Bool.{ne_eqb}
use Rattle.cedar_store.specs.Private.Hashed.{last_word, mix, mix_words, step}
use Rattle.cedar_store.proofs.uid_hasher.mix.Goals as goal

module _ (key begun : ℕ) (bs : List ℕ) (n : ℕ) (last : n ≡ length bs / 4) where
  mix-whole : length bs % 4 ≡ 0 → mix_words key begun bs n ≡ mix key begun bs
  unfolding mix
  mix-whole none = rw (eq-eqb (length bs % 4) 0 none) (ap (mix_words key begun bs) last)

  mix-rest : (length bs % 4 ≡ 0 → ⊥) → step key (mix_words key begun bs n) (last_word bs (length bs / 4 * 4) (length bs % 4)) ≡ mix key begun bs
  unfolding mix
  mix-rest some = rw (ne_eqb (length bs % 4) 0 some) (ap (λ k. step key (mix_words key begun bs k) (last_word bs (length bs / 4 * 4) (length bs % 4))) last)

pub loop-place-init : goal.loop-place-init
unfolding mix_words
loop-place-init c = refl

pub loop-place-preserved : goal.loop-place-preserved
unfolding mix_words
loop-place-preserved c =
    let more : suc c.loop-place.place ≡ c.loop-place.place + 1 = omega arith in
    c.step-state.ensures ∙ ap₂ (step c.args.key) c.loop-place.invariant c.word_at.ensures ∙ ap (mix_words c.args.key c.args.begun c.args.bytes.now) more

pub returns-then-rest-eq0 : goal.returns-then-rest-eq0
returns-then-rest-eq0 c = c.loop-place.invariant ∙ mix-whole c.args.key c.args.begun c.args.bytes.now c.loop-place.place (omega arith) (omega arith)

pub returns : goal.returns
returns c =
    c.step.ensures ∙ ap₂ (step c.args.key) c.loop-place.invariant c.last_word.ensures
    ∙ mix-rest c.args.key c.args.begun c.args.bytes.now c.loop-place.place (omega arith) (λ none. absurd (omega arith))
