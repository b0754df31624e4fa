use Rattle.std.proofs.Common.{◌≡◌, ◌∷◌, [], ◌++◌, List, length, map, sym, ap, ◌∙◌, append_assoc, append-nil, arith}
use Rattle.std.proofs.lemmas.List.{map-append}
use Rattle.std.specs.Vec.Iter.{into_iter_items}
use Rattle.cedar_parser_tokens.specs.Names.{to_uid}
use Rattle.cedar_value.specs.declared.uid.Uid.{Uid}
use Rattle.cedar_parser.proofs.Drained.{nothing_left}
use Rattle.cedar_parser.proofs.policy.to_uids.Goals as goal

pub loop-uid-preserved : goal.loop-uid-preserved
loop-uid-preserved c =
    let at = c.loop-uid in
    let x = c.in-Some.uid in
    let steps : into_iter_items at.uid-iterator ≡ x ∷ into_iter_items c.next.new.self = c.in-Some.ensures.steps.0 in (
      append_assoc at.yielded (x ∷ []) _ ∙ rw (← steps) at.invariant.0,
      c.in_ok-push.ensures.items
          ∙ ap (λ (y : Uid). at.found.items ++ y ∷ []) c.into_uid.ensures
          ∙ ap (λ (ys : List Uid). ys ++ to_uid x ∷ []) at.invariant.1
          ∙ sym (map-append to_uid at.yielded (x ∷ [])),
      let was = at.invariant.2 in
          let gone = c.in-Some.ensures.steps.1 in
          let short = ap length steps in
          omega arith,
    )

pub returns : goal.returns
returns c =
    let at = c.loop-uid in
    let none = c.in-None.ensures.steps in
    let empty : into_iter_items at.uid-iterator ≡ [] = nothing_left _ (sym at.invariant.2 ∙ none.0) in
    let all = sym (append-nil at.yielded) ∙ rw empty at at.invariant.0 ∙ c.into_iter-uid-iterator.ensures.into_iter_gives.0 in
    at.invariant.1 ∙ ap (map to_uid) all
