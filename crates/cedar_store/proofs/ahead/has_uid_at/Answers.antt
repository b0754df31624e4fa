use Rattle.std.proofs.Common.{refl, sym, ◌∙◌}
use Rattle.std.specs.List.{slice_get}
use Rattle.std.proofs.lemmas.Bool.{ltb-false}
use Rattle.std.proofs.lemmas.Option.{slice_get_past, slice_get_read}
use Rattle.cedar_store.proofs.NearMembers.{member_nowhere, member_there}
use Rattle.cedar_store.proofs.ahead.has_uid_at.Goals as goal

pub returns-in-Some : goal.returns-in-Some
returns-in-Some c =
    let keys = c.args.uids.now in
    let found = c.in-Some.ensures.lookup in
    let there = slice_get_read keys _ c.args.number c.in-Some.uid.now refl found.3.0 found.1 in
    c.has_uid.ensures ∙ sym (member_there (slice_get keys c.args.number) c.in-Some.uid.now c.args.values.now there)

pub returns-in-None : goal.returns-in-None
returns-in-None c =
    let keys = c.args.uids.now in
    let nowhere = slice_get_past keys c.args.number (ltb-false _ _ (sym c.in-None.ensures.lookup.0)) in
    sym (member_nowhere (slice_get keys c.args.number) c.args.values.now nowhere)
