use Rattle.std.proofs.Common.{◌≡◌, ◌+◌, ℕ, List, [], ◌∷◌, ◌++◌, Some, take, sym, ap, subst, ◌∙◌}
use Rattle.std.proofs.lemmas.List.{take_more}
use Rattle.std.proofs.lemmas.Slice.Zip.{all_zipped_more}
use Rattle.base_search.specs.Numbered.{AreNumbersOf}
use Rattle.base_search.proofs.Numbering.{numbers_kept}
use Rattle.cedar_value.specs.declared.uid.Uid.{Uid}
use Rattle.cedar_store.specs.Private.Kept.{number_in}
use Rattle.cedar_store.proofs.numbers.number_all.Goals as goal

pub loop-uid-preserved : goal.loop-uid-preserved
loop-uid-preserved c =
    let uids = c.args.uids.now in
    let i = c.loop-uid.uid-index in
    let uid = c.uid-item.result in
    let found = c.loop-uid.found.items in
    let old = number_in c.loop-uid.numbers.keys in
    let new = number_in c.number.new.numbers.keys in
    let kept = c.in_ok-number.ensures.kept in
    let more : take (i + 1) uids ≡ take i uids ++ uid ∷ [] = take_more uids i uid c.loop-uid-test.true ∙ ap (λ u. take i uids ++ u ∷ []) (sym c.uid-item.is) in
    let before = numbers_kept old new kept (take i uids) found c.loop-uid.invariant.found in
    let all = all_zipped_more (λ k n. new k ≡ Some n) (take i uids) found uid c.in_ok-number.field-0 before c.in_ok-number.ensures.found in
    record {
      kept = λ u n at. kept u n (c.loop-uid.invariant.kept u n at);
      found = subst (λ (ns : List ℕ). AreNumbersOf new (take (i + 1) uids) ns) (sym {A = List ℕ} c.in_ok-push.ensures.items) (subst (λ (us : List Uid). AreNumbersOf new us (found ++ c.in_ok-number.field-0 ∷ [])) (sym more) all);
    }
