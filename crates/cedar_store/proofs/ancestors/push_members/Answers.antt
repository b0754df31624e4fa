use Rattle.std.proofs.Common.{◌≡◌, ◌++◌, ◌∷◌, [], not, if◌then◌else◌, ℕ, ◌<◌, ◌≤◌, ◌^◌, List, length, Some, refl, sym, ap, subst, ◌∙◌, arith}
use Rattle.std.specs.List.{slice_get}
use Rattle.std.proofs.lemmas.Option.{slice_get-get_or}
use Rattle.base_bits.specs.Bits.{HasNoBitFrom, IsNextBit}
use Rattle.cedar_value.specs.declared.uid.Uid.{Uid}
use Rattle.cedar_store.proofs.Members.{HasGained-none, HasGained-more, HasGained-all}
use Rattle.cedar_store.proofs.ancestors.push_members.Goals as goal

pub members-init : goal.members-init
members-init c = HasGained-none c.args.numbers.now.keys c.args.row.now c.args.found.now.items

pub returns-in_default-get-clause-adds : goal.returns-in_default-get-clause-adds
returns-in_default-get-clause-adds c =
    let keys = c.args.numbers.now.keys in
    let row = c.args.row.now in
    let same = c.as_slice-uids.ensures.keys in
    let found = subst (λ (r : List ℕ). IsNextBit r c.members.next c.in-Some.number) c.words.ensures c.in-Some.ensures.found in
    let past : length keys ≤ c.in-Some.number = subst (λ (us : List Uid). length us ≤ c.in-Some.number) same c.in_default-get.ensures.lookup.3 in
    HasGained-all keys row c.members.next c.args.found.now.items c.members.found.items c.members.invariant (λ k from within. found.2 k from (omega arith))

pub members-preserved : goal.members-preserved
members-preserved c =
    let keys = c.args.numbers.now.keys in
    let row = c.args.row.now in
    let number = c.in-Some.number in
    let uid = c.in-Some-get.uid in
    let held = c.in-Some-get.ensures.lookup.3 in
    let same = c.as_slice-uids.ensures.keys in
    let found = subst (λ (r : List ℕ). IsNextBit r c.members.next number) c.words.ensures c.in-Some.ensures.found in
    let read : slice_get keys number ≡ Some uid.now =
    subst (λ (us : List Uid). slice_get us number ≡ Some uid.now) same (slice_get-get_or c.as_slice-uids.result.now number uid.now held.0 ∙ ap Some (sym (held.1 uid.now))) in
    HasGained-more keys row c.members.next number uid.now c.as_slice-uids.ensures.unique found read c.args.found.now.items c.members.found.items c.push.new.self.items uid refl c.members.invariant
    (c.push.ensures.items ∙ ap (λ b. if b then c.members.found.items ++ uid ∷ [] else c.members.found.items) (c.is_err.ensures.negation ∙ ap not c.if-is_err.false))

pub returns-clause-adds : goal.returns-clause-adds
returns-clause-adds c =
    let keys = c.args.numbers.now.keys in
    let row = c.args.row.now in
    let same = c.as_slice-uids.ensures.keys in
    let none = subst (λ (r : List ℕ). HasNoBitFrom r c.members.next) c.words.ensures c.in_default.ensures.none in
    let few : length keys < 2 ^ 64 = subst (λ (us : List Uid). length us < 2 ^ 64) same (omega arith) in
    HasGained-all keys row c.members.next c.args.found.now.items c.members.found.items c.members.invariant (λ k from within. none k from (omega arith))
