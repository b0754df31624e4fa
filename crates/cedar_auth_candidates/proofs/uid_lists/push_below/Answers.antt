use Rattle.std.proofs.Common.{◌≡◌, ℕ, ◌++◌, ◌∙◌, List, Contains, false, true, sym, ap, subst}
use Rattle.std.specs.Global.{Vec}
use Rattle.std.proofs.lemmas.List.Elements.{Contains-append_left, Contains-append_right}
use Rattle.cedar_value.specs.declared.uid.Uid.{Uid}
use Rattle.cedar_auth_candidates.specs.Private.Kept.{Holds}
use Rattle.cedar_auth_candidates.proofs.Asking.{HoldsOrLeft, asked_all, asked_more}
use Rattle.cedar_auth_candidates.proofs.uid_lists.push_below.Goals as goal

pub loop-uid-preserved-in-Continue-1 : goal.loop-uid-preserved-in-Continue-1
loop-uid-preserved-in-Continue-1 c =
    let w = c.args.store.now in
    let e = c.args.entity.now in
    let all = c.args.lists.now.entries in
    let old = c.loop-uid.positions.items in
    let new = c.extend_from_slice.new.self.items in
    let list = c.in-Some.list.now in
    let grown : new ≡ old ++ list.items = c.in_ok-extend_from_slice.ensures.items ∙ ap (λ (ks : List ℕ). old ++ ks) c.deref.ensures.value in
    let kept : Holds old new = λ k m. subst (λ (ks : List ℕ). Contains ks k) (sym grown) (Contains-append_left old list.items k m) in
    let added : Holds list.items new = λ k m. subst (λ (ks : List ℕ). Contains ks k) (sym grown) (Contains-append_right old list.items k m) in (
      λ k m. kept k (c.loop-uid.invariant.0 k m),
      asked_more w e all c.next.new.self c.in-Some.uid.now list old new kept (λ below. added)
          (subst (λ (es : List (Uid × Vec ℕ)). HoldsOrLeft w e all es old) c.in-Some.ensures.steps c.loop-uid.invariant.1),
    )

pub loop-uid-preserved : goal.loop-uid-preserved
loop-uid-preserved c =
    let w = c.args.store.now in
    let e = c.args.entity.now in
    let all = c.args.lists.now.entries in
    let old = c.loop-uid.positions.items in (
      c.loop-uid.invariant.0,
      asked_more w e all c.next.new.self c.in-Some.uid.now c.in-Some.list.now old old (λ k m. m)
          (λ below. let told : false ≡ true = (rw (c.descendant-entity.ensures.world, c.descendant-entity.ensures.uid) at c.if-is_below.ensures.chain).1 below in cc told)
          (subst (λ (es : List (Uid × Vec ℕ)). HoldsOrLeft w e all es old) c.in-Some.ensures.steps c.loop-uid.invariant.1),
    )

pub returns-clause-added : goal.returns-clause-added
returns-clause-added c =
    let w = c.args.store.now in
    let e = c.args.entity.now in
    let all = c.args.lists.now.entries in
    let ks = c.loop-uid.positions.items in
    asked_all w e all ks (subst (λ (es : List (Uid × Vec ℕ)). HoldsOrLeft w e all es ks) c.in-None.ensures.steps.0 c.loop-uid.invariant.1)
