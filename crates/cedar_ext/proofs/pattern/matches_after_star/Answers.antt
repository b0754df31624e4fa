use Rattle.std.proofs.Common.{◌≡◌, [], refl}
use Rattle.std.proofs.lemmas.List.{nil_from_length}
use Rattle.cedar_ext.proofs.FirstChar.{no_chars-empty, some_chars}
use Rattle.cedar_ext.proofs.Pieces.{search_star, search_character, search_found, search_short, search_again, search_over, character_first}
use Rattle.cedar_ext.proofs.pattern.matches_after_star.Goals as goal
use Rattle.cedar_ext.proofs.pattern.matches_after_star.Goals.{in-Some-Character-default+in-Some+else-d-c, in-None+else-is_empty}

pub search-preserved-in-Some-Star-default : goal.search-preserved-in-Some-Star-default
search-preserved-in-Some-Star-default c =
    let arm = c.in-Some-Star-default in
    record {
      state = search_star (rw (arm.ensures.cases.0, arm.field-0-0-is) at c.search.invariant.state);
      tried_text = c.search.invariant.rest_text;
      rest_text = c.search.invariant.rest_text;
    }

pub search-preserved-then-d-c : goal.search-preserved-then-d-c
search-preserved-then-d-c c =
    let arm = c.in-Some-Character-default in
    record {
      state = search_character (rw (arm.ensures.cases.0, arm.field-0-0-is, c.in-Some.ensures.cut, c.if-d-c.true) at c.search.invariant.state);
      tried_text = c.search.invariant.tried_text;
      rest_text = c.in-Some.ensures.text;
    }

pub returns-in-None-split_first : goal.returns-in-None-split_first
returns-in-None-split_first c =
    let arm = c.in-Some-Character-default in
    (λ h. cc, λ m. absurd (search_short (rw (arm.ensures.cases.0, arm.field-0-0-is, c.in-None-split_first.ensures.cut) at c.search.invariant.state) m))

pub returns-then-is_empty : goal.returns-then-is_empty
returns-then-is_empty c =
    let none : c.search.todo.now ≡ [] = nil_from_length c.search.todo.now c.in-None.ensures.cases in
    (λ _. search_found (rw (none, no_chars-empty c.search.rest.now c.if-is_empty.ensures) at c.search.invariant.state), λ _. refl)

pub returns-in_default : goal.returns-in_default
returns-in_default c = elim c.match-split_first.branch [
  | in-Some-Character-default+in-Some+else-d-c w ↦
      let arm = w.in-Some-Character-default in
      (λ h. cc, λ m. absurd (search_over (rw (arm.ensures.cases.0, arm.field-0-0-is, w.in-Some.ensures.cut, c.in_default.ensures.cut) at c.search.invariant.state) (λ n. w.if-d-c.false (character_first _ _ _ _ n).0) m))
  | in-None+else-is_empty w ↦
      let none : c.search.todo.now ≡ [] = nil_from_length c.search.todo.now w.in-None.ensures.cases in
      (λ h. cc, λ m. absurd (search_over (rw (none, c.in_default.ensures.cut) at c.search.invariant.state) (λ n. some_chars c.search.rest.now c.search.invariant.rest_text w.if-is_empty.ensures n) m))
]

pub search-preserved : goal.search-preserved
search-preserved c = record {
  state = elim c.match-split_first.branch [
    | in-Some-Character-default+in-Some+else-d-c w ↦
        let arm = w.in-Some-Character-default in
        search_again (rw (arm.ensures.cases.0, arm.field-0-0-is, w.in-Some.ensures.cut, c.in-Some-split_first.ensures.cut) at c.search.invariant.state) (λ n. w.if-d-c.false (character_first _ _ _ _ n).0)
    | in-None+else-is_empty w ↦
        let none : c.search.todo.now ≡ [] = nil_from_length c.search.todo.now w.in-None.ensures.cases in
        search_again (rw (none, c.in-Some-split_first.ensures.cut) at c.search.invariant.state) (λ n. some_chars c.search.rest.now c.search.invariant.rest_text w.if-is_empty.ensures n)
  ];
  tried_text = c.in-Some-split_first.ensures.text;
  rest_text = c.in-Some-split_first.ensures.text;
}
