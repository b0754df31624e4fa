use Rattle.std.proofs.Common.{[]}
use Rattle.cedar_auth_candidates.proofs.ListedPositions.{bits_none, bits_more, bits_all, alone_none, alone_more, alone_all}
use Rattle.cedar_auth_candidates.proofs.listing.row_of.Goals as goal

pub loop-position-init : goal.loop-position-init
loop-position-init c = rw c.new-row.ensures.items (bits_none, alone_none [])

pub loop-position-preserved : goal.loop-position-preserved
loop-position-preserved c =
    let xs = c.args.positions.now in
    let i = c.loop-position.position-index in
    let old = c.loop-position.row.items in
    let new = c.insert_bit.new.row.items in
    let set = c.in_ok-insert_bit.ensures.set in
    (bits_more old new xs i c.loop-position-test.true set c.loop-position.invariant.0, alone_more old new xs i c.loop-position-test.true set c.loop-position.invariant.1)

pub returns-clause-bits : goal.returns-clause-bits
returns-clause-bits c = bits_all c.loop-position.row.items c.args.positions.now c.loop-position.position-index c.loop-position-test.false c.loop-position.invariant.0

pub returns-clause-alone : goal.returns-clause-alone
returns-clause-alone c = alone_all c.loop-position.row.items c.args.positions.now c.loop-position.position-index c.loop-position-test.false c.loop-position.invariant.1
