use Rattle.std.proofs.Common.{◌≤◌, sym, arith}
use Rattle.std.proofs.lemmas.List.{length-reverse, length-take-le}
use Rattle.std.specs.Prelude.{take}
use Rattle.cedar_machine_stack.proofs.Tops.{left}
use Rattle.cedar_machine_stack.proofs.stack.Stack.drop_top.Goals as goal

pub returns-clause-values : goal.returns-clause-values
returns-clause-values c =
    let height = c.self.inside.height in
    let items = c.self.inside.places.items in
    let few : c.args.count ≤ height = omega (arith, rw (← c.self.view_is) at c.requires, length-reverse (take height items), length-take-le height items c.self.invariant) in
    rw (← c.self.view_is) (sym (left items height c.self.invariant c.args.count few))
