use Rattle.std.proofs.Common.{◌≡◌, ◌+◌, ℕ, List, [], ◌∷◌, ◌++◌, Some, take, sym, ap, subst, ◌∙◌}
use Rattle.std.specs.BTreeMap.{get}
use Rattle.std.proofs.lemmas.List.{take_more}
use Rattle.std.proofs.lemmas.Slice.Zip.{all_zipped_more}
use Rattle.base_search.specs.Numbered.{AreNumbersOf}
use Rattle.base_search.proofs.Numbering.{numbers_kept}
use Rattle.cedar_schema.proofs.schema.numbers.number_all.Goals as goal

pub loop-key-preserved : goal.loop-key-preserved
loop-key-preserved g c =
    let R = g.K.Ord.cmp in
    let keys = c.args.keys.now in
    let i = c.loop-key.key-index in
    let key = c.key-item.result in
    let found = c.loop-key.found.items in
    let old = get R c.loop-key.numbers in
    let new = get R c.number.new.numbers in
    let kept = c.in_ok-number.ensures.kept in
    let more : take (i + 1) keys ≡ take i keys ++ key ∷ [] = take_more keys i key c.loop-key-test.true ∙ ap (λ k. take i keys ++ k ∷ []) (sym c.key-item.is) in
    let before = numbers_kept old new kept (take i keys) found c.loop-key.invariant.found in
    let all = all_zipped_more (λ k n. new k ≡ Some n) (take i keys) found key c.in_ok-number.field-0 before c.in_ok-number.ensures.found in
    record {
      apart = c.in_ok-number.ensures.apart;
      kept = λ u n at. kept u n (c.loop-key.invariant.kept u n at);
      found = subst (λ (ns : List ℕ). AreNumbersOf new (take (i + 1) keys) ns) (sym {A = List ℕ} c.in_ok-push.ensures.items) (subst (λ ks. AreNumbersOf new ks (found ++ c.in_ok-number.field-0 ∷ [])) (sym more) all);
    }
