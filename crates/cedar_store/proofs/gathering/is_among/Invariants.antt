use Rattle.std.proofs.Common.{◌≡◌, Bor, All, take}
use Rattle.cedar_value.specs.declared.uid.Uid.{Uid}
use Rattle.cedar_store.proofs.gathering.is_among.Given as goal

abbrev pub invariant-loop-known : goal.invariant-loop-known
invariant-loop-known l = All (λ (p : Bor Uid). ¬ (p.now ≡ l.uid)) (take l.known-index l.uids)
