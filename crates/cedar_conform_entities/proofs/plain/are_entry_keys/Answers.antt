use Rattle.std.proofs.Common.{sym, ap, ◌∙◌}
use Rattle.std.specs.List.{list_all}
use Rattle.std.proofs.lemmas.List.{drop_all}
use Rattle.base_json.specs.declared.lent_item.ItemMember.{ItemMember}
use Rattle.cedar_conform_entities.specs.Entries.{is_entry_key}
use Rattle.cedar_conform_values.proofs.KeyLemmas.{walk_on, walk_ends}
use Rattle.cedar_conform_entities.proofs.plain.are_entry_keys.Goals as goal

pub loop-member-preserved : goal.loop-member-preserved
loop-member-preserved c =
    let test = λ (m : ItemMember). is_entry_key m.key.now in
    c.loop-member.invariant
    ∙ walk_on test c.args.members.now c.loop-member.member-index c.member-item.result c.loop-member-test.true c.member-item.is (sym c.is_entry_key.ensures ∙ c.if-not-is_entry_key.false)

pub returns-then-not-is_entry_key : goal.returns-then-not-is_entry_key
returns-then-not-is_entry_key c =
    let test = λ (m : ItemMember). is_entry_key m.key.now in
    sym (c.loop-member.invariant ∙ walk_ends test c.args.members.now c.loop-member.member-index c.member-item.result c.loop-member-test.true c.member-item.is (sym c.is_entry_key.ensures ∙ c.if-not-is_entry_key.true))

pub returns : goal.returns
returns c =
    let test = λ (m : ItemMember). is_entry_key m.key.now in
    sym (c.loop-member.invariant ∙ ap (list_all test) (drop_all c.loop-member.member-index c.args.members.now c.loop-member-test.false))
