use Rattle.std.specs.Prelude.{take, reverse}
use Rattle.std.proofs.Common.{suc, ◌-◌, ◌≡◌, arith}
use Rattle.cedar_machine_stack.proofs.Tops.{one_on_top}
use Rattle.cedar_machine_stack.proofs.stack.Stack.top.Goals as goal

pub returns : goal.returns
returns c =
    let height = c.self.inside.height in
    let items = c.self.inside.places.items in
    let high : height ≡ suc (height - 1) = omega (arith, c.if-self-eq0.false) in
    let found = rw c.as_slice.ensures at c.index-as_slice-self.is in
    (reverse (take (height - 1) items), rw (← c.self.view_is) (one_on_top items height c.self.invariant (height - 1) c.index-as_slice-self.result high found))
