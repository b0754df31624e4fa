-- What a handle owns.
use base.Fml.{Fml, ftrue}
use denote.RawPtr.{Ptr}
use Rattle.std.specs.Prelude.{Option, None, Some}
use Rattle.std.specs.Box.Ownership.{box_owns}
use Rattle.std.specs.declared.alloc.Global.{Global}
use Rattle.std.specs.contracts.impls.GlobalAllocator.TheImpl.{ghosts}
use Rattle.cedar_c.specs.declared.slot.Slot.{Slot}
use Rattle.cedar_c.specs.contracts.slot.Slot as slot

-- The memory of a slot at p, which is x, and the right to free it (own).
abbrev pub slot_owns : Global → Ptr → Slot → Fml
slot_owns a p x = box_owns (ghosts.dealloc_token a) slot.the_row p x

-- The same, where there is a slot, and otherwise nothing (own).
abbrev pub may_own : Global → Ptr → Option Slot → Fml
may_own a p None = ftrue
may_own a p (Some x) = slot_owns a p x
