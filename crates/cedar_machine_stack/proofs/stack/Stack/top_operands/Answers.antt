use Rattle.std.proofs.Common.{◌≤◌, arith}
use Rattle.std.proofs.lemmas.List.{length-reverse, length-take-le}
use Rattle.std.specs.Prelude.{take}
use Rattle.cedar_machine_stack.proofs.Tops.{topmost}
use Rattle.cedar_machine_stack.proofs.stack.Stack.top_operands.Goals as goal

pub returns : goal.returns
returns c =
    let height = c.self.inside.height in
    let items = c.self.inside.places.items in
    let few : c.args.count ≤ height = omega (arith, rw (← c.self.view_is) at c.requires, length-reverse (take height items), length-take-le height items c.self.invariant) in
    rw (← c.self.view_is, c.as_slice.ensures) (topmost items height c.self.invariant c.args.count few)
