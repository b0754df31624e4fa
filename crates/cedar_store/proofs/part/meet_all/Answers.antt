use Rattle.std.proofs.Common.{List, [], subst}
use Rattle.std.proofs.lemmas.List.{take_all}
use Rattle.base_reach.proofs.Listed.{nowhere}
use Rattle.cedar_value.specs.declared.uid.Uid.{Uid}
use Rattle.cedar_store.specs.Private.Parts.{GainsUids}
use Rattle.cedar_store.proofs.Parts.{gains_more, gains_nothing}
use Rattle.cedar_store.proofs.part.meet_all.Goals as goal

pub loop-uid-init : goal.loop-uid-init
loop-uid-init c = gains_nothing c.args.met.now.keys [] (λ u m. absurd (nowhere u m))

pub loop-uid-preserved : goal.loop-uid-preserved
loop-uid-preserved c =
    gains_more c.args.met.now.keys c.loop-uid.met.keys c.meet.new.met.keys c.args.uids.now c.loop-uid.uid-index c.uid-item.result c.loop-uid-test.true c.uid-item.is c.loop-uid.invariant c.in_ok-meet.ensures

pub returns : goal.returns
returns c = subst (λ (us : List Uid). GainsUids c.args.met.now.keys us c.loop-uid.met.keys) (take_all c.loop-uid.uid-index c.args.uids.now c.loop-uid-test.false) c.loop-uid.invariant
