use Rattle.std.proofs.Common.{rules, arith, ◌<◌, ◌≤◌, [], ◌++◌, length, take}
use Rattle.std.proofs.lemmas.Grind.{common_steps}
use Rattle.cedar_text.specs.Letters.{nothing}
use Rattle.cedar_text.proofs.Spelled.{written_more}
use Rattle.cedar_text.proofs.Firsts.{only_spelled, stuck, quoted_on}
use Rattle.cedar_text.proofs.EveryString.{no_string_stuck}
use Rattle.cedar_text.proofs.spelling.letters.Goals as goal

pub loop-rest-init : goal.loop-rest-init
loop-rest-init c = (c.in-Some.ensures.utf8, ([], c.in-Some.ensures.found, rw c.in_ok-found.ensures.items nothing))

pub returns-in_default-first_letter-clause-only : goal.returns-in_default-first_letter-clause-only
returns-in_default-first_letter-clause-only c =
    let some : 0 < length c.loop-rest.rest.now = first_of (search rules, grind (arith, common_steps)) in
    let read = c.loop-rest.invariant.1 in
    λ letters spelled. stuck c.args.text.now read.0 c.loop-rest.rest.now c.loop-rest.found.items letters read.1 read.2 some c.in_default-first_letter.ensures.none spelled

pub returns-in_default-first_letter-clause-fault : goal.returns-in_default-first_letter-clause-fault
returns-in_default-first_letter-clause-fault c =
    let some : 0 < length c.loop-rest.rest.now = first_of (search rules, grind (arith, common_steps)) in
    let read = c.loop-rest.invariant.1 in (
      c.in-Some.inner.now,
      c.in-Some.ensures.found,
      no_string_stuck c.args.text.now c.in-Some.inner.now c.in-Some.ensures.utf8 c.in-Some.ensures.found
          (λ letters spelled. stuck c.args.text.now read.0 c.loop-rest.rest.now c.loop-rest.found.items letters read.1 read.2 some c.in_default-first_letter.ensures.none spelled),
    )

pub loop-rest-preserved : goal.loop-rest-preserved
loop-rest-preserved c =
    let len = c.in-Some-first_letter.len in
    let first = c.in-Some-first_letter.ensures.found in
    let read = c.loop-rest.invariant.1 in (
      c.range_from-rest.utf8,
      (
        read.0 ++ take len c.loop-rest.rest.now,
        rw c.range_from-rest.ensures.value (quoted_on c.args.text.now read.0 c.loop-rest.rest.now len read.1),
        rw c.in_ok-push.ensures.items (written_more read.0 (take len c.loop-rest.rest.now) c.loop-rest.found.items c.in-Some-first_letter.letter read.2 first.written),
      ),
    )

pub returns-clause-only : goal.returns-clause-only
returns-clause-only c =
    let none : length c.loop-rest.rest.now ≤ 0 = first_of (search rules, grind (arith, common_steps)) in
    let read = c.loop-rest.invariant.1 in λ letters spelled. only_spelled c.args.text.now read.0 c.loop-rest.rest.now c.loop-rest.found.items letters read.1 read.2 none spelled
