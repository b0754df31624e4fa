use denote.Param.Send.{sendable}
use Rattle.cedar_auth.proofs.ReadyCrossing.{validated-send, validated-sync}
use Rattle.cedar_auth.proofs.crossing.validated_crosses.Goals as goal

pub crosses-requires-send-T : goal.crosses-requires-send-T
crosses-requires-send-T c κs = search (validated-send, sendable)

pub crosses-requires-sync-T : goal.crosses-requires-sync-T
crosses-requires-sync-T c κs = search (validated-sync, sendable)
