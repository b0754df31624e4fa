use Rattle.std.proofs.Common.{List, ℕ, map, take, sym, subst, arith}
use Rattle.std.specs.List.{concat}
use Rattle.std.proofs.lemmas.List.{take_all}
use Rattle.base_places.specs.Drafts.{Adds}
use Rattle.base_places.proofs.Drafts.{adds_nothing, adds_both, texts_more}
use Rattle.base_places.proofs.draft.Draft.add_all.Goals as goal

pub loop-text-init : goal.loop-text-init
loop-text-init c = adds_nothing c.args.self.now

pub loop-text-preserved : goal.loop-text-preserved
loop-text-preserved c =
    let begun = concat (map (λ text. text.now) (take c.loop-text.text-index c.args.texts.now)) in
    subst (λ (all : List ℕ). Adds c.args.self.now all c.add.new.self) (sym (texts_more c.args.texts.now c.loop-text.text-index _ c.loop-text-test.true))
    (adds_both c.args.self.now c.loop-text.self c.add.new.self begun _ c.loop-text.invariant c.add.ensures)

pub returns : goal.returns
returns c =
    let i = c.loop-text.text-index in
    let all = c.args.texts.now in
    subst (λ texts. Adds c.args.self.now (concat (map (λ text. text.now) texts)) c.loop-text.self) (take_all i all (omega (arith, c.loop-text-test.false))) c.loop-text.invariant
