use Rattle.std.proofs.Common.{◌<◌, length, arith}
use Rattle.cedar_parser_limits.proofs.PartLemmas.{uids_step}
use Rattle.cedar_parser_limits.proofs.condition_size.uids_size.Goals as goal

pub loop-uid-preserved : goal.loop-uid-preserved
loop-uid-preserved c =
    let within : c.loop-uid.uid-index < length c.args.uids.now = omega arith in
    uids_step c.args.uids.now c.loop-uid.uid-index c.uid-item.result c.loop-uid.whole c.literal_size.result c.both-whole.result within c.uid-item.is c.loop-uid.invariant c.literal_size.ensures c.both-whole.ensures
