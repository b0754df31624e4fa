-- A handle may go to another thread, since its slot may, and any thread may free it.
--     lies      what is at an address may, where its type may
--     quiet     what a type leaves may, where what its fields leave may
use mir.Raw.{raw}
use base.Fraction.{full_share}
use base.Shift.{Keyless}
use denote.Exit.{Exit, unchanged, leaves, hidden, under}
use denote.RattleType.{RattleType}
use denote.RawPtr.{Ptr, block_ptr, null_ptr, lies_at}
use denote.Memory.{lone}
use denote.Struct.Struct.{exits_of}
use denote.Struct.Owning.{shape, fields, to}
use denote.Param.Send.{IsSend, Quiet, AllSend, part_keyless, owning_send, struct_send, sendable}
use Rattle.std.proofs.Crossing.{frees}
use Rattle.cedar_c.proofs.SlotCrossing.{slot-send}
use Rattle.cedar_c.specs.contracts.slot.Slot as slot
use Rattle.cedar_c.specs.contracts.handle.Handle.{the_row, the_type}

lies : (R : RattleType) → IsSend R → (p : Ptr) (x : R.Denot) → Keyless (lies_at R full_share p x)
lies R s (block_ptr b o) x = part_keyless R s full_share x b o
lies R s null_ptr x = tt

quiet : {D X : Type 0} (to : D → X) (e : Exit X) → Quiet e → Quiet (hidden (under to e))
quiet to unchanged q = λ x w. tt
quiet to (leaves L l S s r₀) q = λ d. q (to d)

pub send : IsSend the_row
send =
    let O = the_type in
    let all : AllSend (fields O) = (search sendable, (search sendable depth 20, tt)) in
    owning_send O all (λ d. (lies slot.the_row slot-send d.at d.value, frees.frees d.alloc (raw (lone slot.the_row.mir)) d.at))
    (λ k. quiet (to O) (exits_of k (fields O)) ((struct_send (shape O) all).leaving k))
