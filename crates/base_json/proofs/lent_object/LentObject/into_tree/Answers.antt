use Rattle.std.proofs.Common.{◌≡◌, ℕ, [], ◌∷◌, List, length, string_bytes, sym, ap, ◌∙◌, arith, rules}
use Rattle.std.proofs.lemmas.List.{nil_from_length}
use Rattle.std.specs.Vec.Iter.{into_iter_items}
use Rattle.serde_json.specs.Data.{Members, no_members, object, put}
use Rattle.serde_json.specs.View.{view, members_view}
use Rattle.serde_json.proofs.Views.{members_view-insert_entry, view-Object}
use Rattle.base_json.specs.LentObjects.{part_view, put_all}
use Rattle.base_json.specs.declared.lent_object.LentMember.{LentMember}
use Rattle.base_json.proofs.lent_object.LentObject.into_tree.Goals as goal

pub loop-member-init : goal.loop-member-init
loop-member-init c = (ap (λ (ms : Members). put_all (into_iter_items c.into_iter-member-iterator.result) ms) (sym (ap members_view c.new-found.ensures.empty)), search rules)

pub loop-member-preserved : goal.loop-member-preserved
loop-member-preserved c =
    let at = c.loop-member in
    let m = c.in-Some.member in
    let steps : into_iter_items at.member-iterator ≡ m ∷ into_iter_items c.next.new.self = c.in-Some.ensures.steps.0 in
    let old = at.found.entries in
    let copied : string_bytes c.in_ok-key.key ≡ m.key.now = search rules in
    let grown : members_view c.insert.new.self.entries ≡ put m.key.now (part_view m.value) (members_view old) =
    ap members_view c.in_ok-insert.ensures.entries ∙ members_view-insert_entry old c.in_ok-key.key c.in_ok-value.value
    ∙ ap (λ (k : List ℕ). put k (view c.in_ok-value.value) (members_view old)) copied ∙ ap (λ d. put m.key.now d (members_view old)) c.in_ok-value.ensures in (
      at.invariant.0 ∙ ap (λ (ms : List LentMember). put_all ms (members_view old)) steps ∙ ap (put_all (into_iter_items c.next.new.self)) (sym grown),
      let was = at.invariant.1 in
          let gone = c.in-Some.ensures.steps.1 in
          let short = ap length steps in
          omega arith,
    )

pub returns : goal.returns
returns c =
    let at = c.loop-member in
    let none = c.in-None.ensures.steps in
    let empty : into_iter_items at.member-iterator ≡ [] = nil_from_length _ (sym at.invariant.1 ∙ none.0) in
    let all = ap (λ (ms : List LentMember). put_all ms no_members) (sym c.into_iter-member-iterator.ensures.into_iter_gives.0) ∙ at.invariant.0 ∙ ap (λ (ms : List LentMember). put_all ms (members_view at.found.entries)) empty in
    view-Object at.found ∙ ap object (sym all)
