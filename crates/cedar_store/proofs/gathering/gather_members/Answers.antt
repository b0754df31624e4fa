use Rattle.std.proofs.Common.{◌≡◌, ◌+◌, ℕ, ◌<◌, ◌≤◌, ◌^◌, IsTrue, List, length, Some, sym, ap, subst, ◌∙◌, arith}
use Rattle.std.specs.List.{slice_get}
use Rattle.std.proofs.lemmas.Option.{slice_get-get_or}
use Rattle.base_bits.specs.Bits.{HasNoBitFrom, IsNextBit}
use Rattle.cedar_value.specs.declared.uid.Uid.{Uid}
use Rattle.cedar_store.specs.Private.Kept.{in_row}
use Rattle.cedar_store.proofs.Gathered.{Gathers-as, Gathers-on, KeepsFirst-on, still_known}
use Rattle.cedar_store.proofs.Members.{IsToldBelow, told_all, told_new, told_step}
use Rattle.cedar_store.proofs.gathering.gather_members.Goals as goal

pub returns-in_default-get-clause-gathers : goal.returns-in_default-get-clause-gathers
returns-in_default-get-clause-gathers c =
    let keys = c.args.numbers.now.keys in
    let row = c.args.row.now in
    let same = c.as_slice-uids.ensures.keys in
    let found = subst (λ (r : List ℕ). IsNextBit r c.members.next c.in-Some.number) c.words.ensures c.in-Some.ensures.found in
    let past : length keys ≤ c.in-Some.number = subst (λ (us : List Uid). length us ≤ c.in-Some.number) same c.in_default-get.ensures.lookup.3 in
    Gathers-as c.args.begun c.args.found.now.items c.members.found.items (IsToldBelow keys row c.members.next) (λ v. IsTrue (in_row keys row v)) (told_all keys row c.members.next (λ k from within. found.2 k from (omega arith))) c.members.invariant.2

pub gather-requires-clause-apart : goal.gather-requires-clause-apart
gather-requires-clause-apart c =
    let keys = c.args.numbers.now.keys in
    let row = c.args.row.now in
    let number = c.in-Some.number in
    let u = c.in-Some-get.uid.now in
    let held = c.in-Some-get.ensures.lookup.3 in
    let found = subst (λ (r : List ℕ). IsNextBit r c.members.next number) c.words.ensures c.in-Some.ensures.found in
    let read : slice_get keys number ≡ Some u =
    subst (λ (us : List Uid). slice_get us number ≡ Some u) c.as_slice-uids.ensures.keys (slice_get-get_or c.as_slice-uids.result.now number u held.0 ∙ ap Some (sym (held.1 u))) in
    let order : c.args.begun ≤ c.len-end.result = omega arith in
    let whole : c.len-end.result ≡ length c.args.found.now.items = omega arith in
    still_known c.args.begun c.len-end.result c.args.found.now.items c.members.found.items (IsToldBelow keys row c.members.next) u order whole c.members.invariant.1 c.members.invariant.2
    (told_new keys row c.members.next number u c.as_slice-uids.ensures.unique found read)

pub members-preserved : goal.members-preserved
members-preserved c =
    let keys = c.args.numbers.now.keys in
    let row = c.args.row.now in
    let number = c.in-Some.number in
    let u = c.in-Some-get.uid.now in
    let held = c.in-Some-get.ensures.lookup.3 in
    let found = subst (λ (r : List ℕ). IsNextBit r c.members.next number) c.words.ensures c.in-Some.ensures.found in
    let read : slice_get keys number ≡ Some u =
    subst (λ (us : List Uid). slice_get us number ≡ Some u) c.as_slice-uids.ensures.keys (slice_get-get_or c.as_slice-uids.result.now number u held.0 ∙ ap Some (sym (held.1 u))) in
    let begun = c.args.begun in
    let end = c.len-end.result in
    let first = c.args.found.now.items in
    let now = c.members.found.items in (
      KeepsFirst-on begun first now c.gather.new.found.items c.members.invariant.0 (c.gather.ensures.kept begun c.members.invariant.0.1),
      KeepsFirst-on end first now c.gather.new.found.items c.members.invariant.1 (c.gather.ensures.kept end c.members.invariant.1.1),
      Gathers-on begun first now c.gather.new.found.items (IsToldBelow keys row c.members.next) (λ v. u ≡ v) (IsToldBelow keys row (number + 1)) c.members.invariant.2 c.in_ok-gather.ensures.gathers
          (told_step keys row c.members.next number u c.as_slice-uids.ensures.unique found read),
    )

pub returns-clause-gathers : goal.returns-clause-gathers
returns-clause-gathers c =
    let keys = c.args.numbers.now.keys in
    let row = c.args.row.now in
    let none = subst (λ (r : List ℕ). HasNoBitFrom r c.members.next) c.words.ensures c.in_default.ensures.none in
    let few : length keys < 2 ^ 64 = subst (λ (us : List Uid). length us < 2 ^ 64) c.as_slice-uids.ensures.keys (omega arith) in
    Gathers-as c.args.begun c.args.found.now.items c.members.found.items (IsToldBelow keys row c.members.next) (λ v. IsTrue (in_row keys row v)) (told_all keys row c.members.next (λ k from within. none k from (omega arith))) c.members.invariant.2
