-- What a handle leads to may go to another thread.
use denote.Param.Send.{IsSend, sendable}
use Rattle.std.proofs.Crossing.{crosses}
use Rattle.cedar_auth.proofs.ReadyCrossing.{ready-send, ready-sync}
use Rattle.cedar_value.proofs.name.Name.TheSendSync as name
use Rattle.cedar_c.specs.contracts.engine.Engine as Engine
use Rattle.cedar_c.specs.contracts.slot.Slot as Slot

engine-send : IsSend Engine.the_row
engine-send = let s = ready-send in let y = ready-sync in search (name.the_send, sendable, crosses) depth 40

pub slot-send : IsSend Slot.the_row
slot-send = let e = engine-send in search sendable depth 20
