use Rattle.std.proofs.Common.{◌≡◌, ◌+◌, ℕ, List, [], ◌∷◌, ◌++◌, take, sym, ap, subst, ◌∙◌}
use Rattle.std.specs.BTreeMap.{get}
use Rattle.std.proofs.lemmas.List.{take_more}
use Rattle.std.proofs.lemmas.Slice.Zip.{all_zipped_more}
use Rattle.base_reach.specs.Private.Lent.{lent}
use Rattle.base_reach.proofs.Searching.{lent-push}
use Rattle.base_search.specs.Numbered.{AreNumbersOf}
use Rattle.base_search.proofs.Numbering.{lists_kept}
use Rattle.cedar_schema.specs.Private.Kept.{AreLinkNumbers}
use Rattle.cedar_schema.proofs.schema.graph.graph_of.Goals as goal

pub loop-key-preserved : goal.loop-key-preserved
loop-key-preserved g c =
    let R = g.K.Ord.cmp in
    let up = g.G.Links.links c.args.links.now in
    let keys = c.args.declared.now in
    let i = c.loop-key.key-index in
    let key = c.key-item.result in
    let old = get R c.loop-key.numbers in
    let new = get R c.number_all.new.numbers in
    let lists = c.loop-key.lists in
    let numbers = c.deref.result.now in
    let more : lent (take (i + 1) keys) ≡ lent (take i keys) ++ key.now ∷ [] = lent-push (take (i + 1) keys) (take i keys) key (take_more keys i key c.loop-key-test.true ∙ ap (λ k. take i keys ++ k ∷ []) (sym c.key-item.is)) in
    let found : AreNumbersOf new (up key.now) numbers =
    subst (λ (ns : List ℕ). AreNumbersOf new (up key.now) ns) (sym c.deref.ensures.value) (subst (λ us. AreNumbersOf new us c.in_ok-list.list.items) c.links.ensures c.in_ok-list.ensures.found) in
    let before = lists_kept up old new c.in_ok-list.ensures.kept (lent (take i keys)) lists c.loop-key.invariant.lists in
    let all = all_zipped_more (λ u (ns : List ℕ). AreNumbersOf new (up u) ns) (lent (take i keys)) lists key.now numbers before found in
    record {
      apart = c.in_ok-list.ensures.apart;
      lists = subst (λ (ls : List (List ℕ)). AreLinkNumbers R up c.number_all.new.numbers (lent (take (i + 1) keys)) ls) (sym c.in_ok-push.ensures) (subst (λ us. AreLinkNumbers R up c.number_all.new.numbers us (lists ++ numbers ∷ [])) (sym more) all);
    }
