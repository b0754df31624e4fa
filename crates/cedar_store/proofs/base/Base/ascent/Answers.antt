use Rattle.std.proofs.Common.{IfSome}
use Rattle.std.specs.Prelude.{◌≡◌, ℕ, List, Option, None, Some}
use Rattle.base_bits.specs.Bits.{has_bit}
use Rattle.cedar_value.specs.World.{World}
use Rattle.cedar_value.specs.declared.uid.Uid.{Uid}
use Rattle.cedar_store.specs.Private.Ascents.{is_reached}
use Rattle.cedar_store.specs.Private.Kept.{AreAncestors, has_ahead, in_ahead}
use Rattle.cedar_store.proofs.AboveNear.{above_of, row_above}
use Rattle.cedar_store.proofs.base.Base.ascent.Goals as goal

-- With a row of what is ahead, and without one.
by_row : (keys : List Uid) (w : World) (rows : List (List ℕ)) (near : List ℕ) (u : Uid) → AreAncestors w u (in_ahead keys rows near)
    → (o : Option (List ℕ)) → IfSome o (λ row. (m : ℕ) → has_bit row m ≡ has_ahead rows near m) → AreAncestors w u (is_reached o keys rows near)
by_row keys w rows near u above None _ = above
by_row keys w rows near u above (Some row) same = row_above keys w rows near row u same above

pub returns : goal.returns
returns c =
    let keys = c.self.inside.numbers.keys in
    let w = c.self.inside.table in
    let rows = c.self.inside.rows.items in
    let near = c.parent_numbers-near.result.now in
    let u = c.args.uid.now in
    let above = above_of keys w c.self.inside.parents rows c.as_slice-rows.result.now c.self.invariant.0 c.self.invariant.2 c.as_slice-rows.ensures.value u near c.parent_numbers-near.ensures in
    rw (← c.self.view_is) (by_row keys w c.as_slice-rows.result.now near u above c.row_of_many-above.result c.row_of_many-above.ensures)
