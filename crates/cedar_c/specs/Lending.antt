-- What becomes of a handle whose slot is lent.
use Rattle.std.specs.Borrow.{Lends, MutBor, Fml}
use Rattle.cedar_c.specs.declared.slot.Slot.{Slot}
use Rattle.cedar_c.specs.declared.handle.Handle.{Handle}
use Rattle.cedar_c.specs.contracts.slot.Slot as slot
use Rattle.cedar_c.specs.contracts.handle.Handle as handle

-- The handle, where its slot is x (own).
abbrev pub with_slot : Handle → Slot → Handle
with_slot h x = record h { value = x }

-- The handle s ends with the last slot that is written through r (own).
abbrev pub LendsSlot : MutBor Handle → MutBor Slot → Fml
LendsSlot s r = Lends handle.the_row slot.the_row s r (with_slot s.now)
