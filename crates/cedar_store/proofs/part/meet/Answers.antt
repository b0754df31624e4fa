use Rattle.std.proofs.Common.{sym, ◌∙◌}
use Rattle.cedar_store.proofs.Numbered.{keys_more}
use Rattle.cedar_store.proofs.Parts.{gains_had, gains_one}
use Rattle.cedar_store.proofs.part.meet.Goals as goal

pub returns-then-contains : goal.returns-then-contains
returns-then-contains c = gains_had c.args.met.now.keys c.args.uid.now (sym c.contains.ensures ∙ c.if-contains.true)

pub returns : goal.returns
returns c =
    let old = c.args.met.now.keys in
    let new = c.insert.new.self.keys in
    let uid = c.args.uid.now in
    let absent = sym c.contains.ensures ∙ c.if-contains.false in
    gains_one old new uid (keys_more old new uid c.in_ok-try_clone.field-0 c.in_ok-try_clone.ensures absent c.in_ok-insert.ensures.keys)
