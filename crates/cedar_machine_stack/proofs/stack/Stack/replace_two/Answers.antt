use Rattle.std.proofs.Common.{◌≤◌, ◌-◌, ◌≡◌, ◌<◌, suc, length, ap, sym, ◌∙◌, ◌∷◌, arith}
use Rattle.std.proofs.lemmas.List.{length-reverse, length-take-le}
use Rattle.std.specs.Prelude.{take, reverse}
use Rattle.cedar_machine_stack.proofs.Tops.{left, put_on}
use Rattle.cedar_machine_stack.proofs.stack.Stack.replace_two.Goals as goal

pub returns-clause-values : goal.returns-clause-values
returns-clause-values c =
    let height = c.self.inside.height in
    let items = c.self.inside.places.items in
    let few : 2 ≤ height = omega (arith, rw (← c.self.view_is) at c.requires, length-reverse (take height items), length-take-le height items c.self.invariant) in
    let within : height - 1 - 1 < length items = omega (arith, few, c.self.invariant) in
    let same : height - 1 - 1 ≡ height - 2 = omega arith in
    let high : height - 1 ≡ suc (height - 1 - 1) = omega (arith, few) in
    rw (← c.self.view_is, c.as_mut_slice.ensures.value)
    (put_on items (height - 1 - 1) (height - 1) c.args.operand high within
    ∙ ap (λ n. c.args.operand ∷ reverse (take n items)) same
    ∙ ap (λ l. c.args.operand ∷ l) (sym (left items height c.self.invariant 2 few)))
