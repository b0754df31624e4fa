use Rattle.std.proofs.Common.{◌<◌, ◌≤◌, ◌+◌, ◌-◌, ◌/◌, ℕ, length, sym, ◌∙◌, arith}
use Rattle.cedar_schema.proofs.PlaceLemmas.{found_there, narrowed_down, narrowed_up, none_left}
use Rattle.cedar_schema.proofs.schema.place.place_of.Goals as goal

pub halves-preserved-in-Less : goal.halves-preserved-in-Less
halves-preserved-in-Less c =
    let es = c.args.environments.now in
    let l = c.halves in
    let middle : ℕ = l.low + (l.high - l.low) / 2 in
    let less : middle < l.high = omega (arith, c.halves-test.true) in
    let inside : middle < length es = omega (arith, less, l.invariant.within) in
    narrowed_up c.args.action.now c.args.principal.now c.args.resource.now es middle c.index-environments-middle.result inside c.index-environments-middle.is c.requires l.low l.high l.invariant less
    (sym c.order_to.ensures ∙ c.in-Less.is)

pub halves-preserved : goal.halves-preserved
halves-preserved c =
    let es = c.args.environments.now in
    let l = c.halves in
    let middle : ℕ = l.low + (l.high - l.low) / 2 in
    let less : middle < l.high = omega (arith, c.halves-test.true) in
    let inside : middle < length es = omega (arith, less, l.invariant.within) in
    let from : l.low ≤ middle = omega arith in
    narrowed_down c.args.action.now c.args.principal.now c.args.resource.now es middle c.index-environments-middle.result inside c.index-environments-middle.is c.requires l.low l.high l.invariant from
    (sym c.order_to.ensures ∙ c.in-Greater.is)

pub returns-in-Equal : goal.returns-in-Equal
returns-in-Equal c =
    let es = c.args.environments.now in
    let l = c.halves in
    let middle : ℕ = l.low + (l.high - l.low) / 2 in
    let less : middle < l.high = omega (arith, c.halves-test.true) in
    let inside : middle < length es = omega (arith, less, l.invariant.within) in
    found_there c.args.action.now c.args.principal.now c.args.resource.now es middle c.index-environments-middle.result inside c.index-environments-middle.is
    (sym c.order_to.ensures ∙ c.in-Equal.is)

pub returns : goal.returns
returns c =
    none_left c.args.action.now c.args.principal.now c.args.resource.now c.args.environments.now c.halves.low c.halves.high c.halves.invariant (omega (arith, c.halves-test.false))
