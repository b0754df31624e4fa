use Rattle.std.proofs.Common.{◌≡◌, ◌+◌, ◌<◌, ◌≤◌, ℕ, List, [], ◌∷◌, ◌++◌, length, get_or, take, sym, ap, subst, ◌∙◌, arith}
use Rattle.std.specs.List.{AllZip}
use Rattle.std.proofs.lemmas.List.{take_all, take_more}
use Rattle.std.proofs.lemmas.Slice.Zip.{all_zipped_more}
use Rattle.base_search.specs.Numbered.{AreNumbersOf}
use Rattle.cedar_value.specs.World.{parents_of}
use Rattle.cedar_value.specs.declared.uid.Uid.{Uid}
use Rattle.cedar_store.specs.Private.Kept.{number_in}
use Rattle.cedar_store.proofs.Linked.{near_numbers, placed_more, whole}
use Rattle.cedar_store.proofs.links.number_graph.Goals as goal

pub loop-number-preserved : goal.loop-number-preserved
loop-number-preserved c =
    let w = c.args.table.now in
    let keys = c.args.numbers.now.keys in
    let i = c.loop-number.number in
    let uid = c.uid-item.result in
    let ns = c.parent_numbers.result.now in
    let same : c.as_slice-uid-items.result.now ≡ keys = c.as_slice-uid-items.ensures.keys in
    let is : uid ≡ get_or keys i uid = subst (λ (us : List Uid). uid ≡ get_or us i uid) same c.uid-item.is in
    let within : i < length keys = subst (λ (us : List Uid). i < length us) same c.loop-number-test.true in
    let more : take (i + 1) keys ≡ take i keys ++ uid ∷ [] = take_more keys i uid within ∙ ap (λ u. take i keys ++ u ∷ []) (sym is) in
    let near : AreNumbersOf (number_in keys) (parents_of w uid) ns = near_numbers keys w c.args.lists.now c.requires uid ns c.parent_numbers.ensures in
    let all = all_zipped_more (λ (u : Uid) (ms : List ℕ). AreNumbersOf (number_in keys) (parents_of w u) ms) (take i keys) c.loop-number.linked uid ns c.loop-number.invariant.0 near in (
      subst (λ (ls : List (List ℕ)). AllZip (λ u ms. AreNumbersOf (number_in keys) (parents_of w u) ms) (take (i + 1) keys) ls) (sym c.in_ok-push.ensures)
          (subst (λ (us : List Uid). AllZip (λ u ms. AreNumbersOf (number_in keys) (parents_of w u) ms) us (c.loop-number.linked ++ ns ∷ [])) (sym more) all),
      placed_more i c.loop-number.places.items c.push-in-loop-number.new.self.items c.loop-number.invariant.1 c.in_ok-push-2.ensures.items,
      omega arith,
    )

pub returns-clause-graph : goal.returns-clause-graph
returns-clause-graph c =
    let w = c.args.table.now in
    let keys = c.args.numbers.now.keys in
    let i = c.loop-number.number in
    let past : length keys ≤ i = subst (λ (us : List Uid). length us ≤ i) c.as_slice-uid-items.ensures.keys c.loop-number-test.false in
    let within : i ≤ length keys = c.loop-number.invariant.2 in
    let all : AllZip (λ u ms. AreNumbersOf (number_in keys) (parents_of w u) ms) keys c.loop-number.linked =
    subst (λ (us : List Uid). AllZip (λ u ms. AreNumbersOf (number_in keys) (parents_of w u) ms) us c.loop-number.linked) (take_all i keys past) c.loop-number.invariant.0 in
    record {
      listed = all;
      placed = λ n less. c.loop-number.invariant.1.0 n (omega arith);
      long = c.loop-number.invariant.1.1 ∙ omega arith;
    }

pub returns-clause-whole : goal.returns-clause-whole
returns-clause-whole c = whole c.args.numbers.now.keys c.args.table.now c.args.lists.now c.requires
