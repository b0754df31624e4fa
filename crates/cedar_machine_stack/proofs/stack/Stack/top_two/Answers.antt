use Rattle.std.specs.Prelude.{take, reverse}
use Rattle.std.proofs.Common.{suc, ◌-◌, ◌≡◌, ◌∷◌, ◌∙◌, ap, arith}
use Rattle.cedar_machine_stack.proofs.Tops.{one_on_top}
use Rattle.cedar_machine_stack.proofs.stack.Stack.top_two.Goals as goal

pub returns-clause-some : goal.returns-clause-some
returns-clause-some c =
    let height = c.self.inside.height in
    let items = c.self.inside.places.items in
    let high : height ≡ suc (height - 1) = omega (arith, c.if-self-lt2.false) in
    let below : height - 1 ≡ suc (height - 2) = omega (arith, c.if-self-lt2.false) in
    let left = rw c.as_slice-places.ensures at c.index-places-self.is in
    let right = rw c.as_slice-places.ensures at c.index-places-self-2.is in (
      reverse (take (height - 2) items),
      rw (← c.self.view_is)
          (one_on_top items height c.self.invariant (height - 1) c.index-places-self-2.result high right
          ∙ ap (λ l. c.index-places-self-2.result ∷ l) (one_on_top items (height - 1) (omega (arith, c.self.invariant)) (height - 2) c.index-places-self.result below left)),
    )
