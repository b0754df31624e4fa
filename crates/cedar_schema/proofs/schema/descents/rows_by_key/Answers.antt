use Rattle.std.proofs.Common.{◌≡◌, length, arith}
use Rattle.base_reach.specs.Private.Lent.{lent}
use Rattle.cedar_schema.proofs.Numbered.{taking_end, taking_next}
use Rattle.cedar_schema.proofs.schema.descents.rows_by_key.Goals as goal

pub last-preserved-in_ok-insert : goal.last-preserved-in_ok-insert
last-preserved-in_ok-insert g c =
    let sized = c.pop.new.self.ok.0 in
    let end : c.len.result ≡ length c.pop.new.self.items = omega (arith, c.len.ensures) in
    taking_next g.K.Ord.cmp g.met.K.Key.ties c.args.keys.now c.args.rows.items c.last.rows.items c.pop.new.self.items c.in-Some.row c.last.found c.insert.new.self c.len.result c.index-keys-len.result c.in_ok-try_clone.field-0
    c.last.invariant c.in-Some.ensures.items end c.index-keys-len.is c.in_ok-try_clone.ensures c.in_ok-insert.ensures.updates

pub last-preserved : goal.last-preserved
last-preserved g c =
    let sized = c.pop.new.self.ok.0 in
    let end : c.len.result ≡ length c.pop.new.self.items = omega (arith, c.len.ensures) in
    taking_next g.K.Ord.cmp g.met.K.Key.ties c.args.keys.now c.args.rows.items c.last.rows.items c.pop.new.self.items c.in-Some.row c.last.found c.insert.new.self c.len.result c.index-keys-len.result c.in_ok-try_clone.field-0
    c.last.invariant c.in-Some.ensures.items end c.index-keys-len.is c.in_ok-try_clone.ensures c.in_ok-insert.ensures.updates

pub returns-clause-whole : goal.returns-clause-whole
returns-clause-whole g c =
    let sized = c.last.rows.ok.0 in
    let none = c.in_default.ensures.cases.0 in
    taking_end g.K.Ord.cmp g.met.K.Key.ties (lent c.args.keys.now) c.args.rows.items c.last.rows.items c.last.found c.last.invariant (omega arith)
