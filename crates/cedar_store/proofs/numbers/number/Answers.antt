use Rattle.std.proofs.Common.{sym}
use Rattle.cedar_store.proofs.Numbered.{keys_more, number_gained}
use Rattle.cedar_store.proofs.numbers.number.Goals as goal

pub returns-clause-found : goal.returns-clause-found
returns-clause-found c =
    let old = c.args.numbers.now.keys in
    let new = c.insert.new.self.keys in
    let uid = c.args.uid.now in
    let absent = sym c.in_default.ensures.found in
    number_gained old new uid c.len-next.result absent (keys_more old new uid c.in_ok-try_clone.field-0 c.in_ok-try_clone.ensures absent c.in_ok-insert.ensures.keys) c.len-next.ensures.len
