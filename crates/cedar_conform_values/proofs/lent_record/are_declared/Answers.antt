use Rattle.std.proofs.Common.{sym, ap, ◌∙◌}
use Rattle.std.specs.List.{list_all}
use Rattle.std.proofs.lemmas.List.{drop_all}
use Rattle.base_json.specs.declared.lent_object.LentMember.{LentMember}
use Rattle.cedar_schema_types.specs.Types.{names_of}
use Rattle.cedar_conform_values.specs.Values.{is_declared}
use Rattle.cedar_conform_values.proofs.KeyLemmas.{walk_on, walk_ends}
use Rattle.cedar_conform_values.proofs.lent_record.are_declared.Goals as goal

pub loop-member-preserved : goal.loop-member-preserved
loop-member-preserved c =
    let test = λ (m : LentMember). is_declared (names_of c.args.attributes.now) m.key.now in
    c.loop-member.invariant
    ∙ walk_on test c.args.members.now c.loop-member.member-index c.member-item.result c.loop-member-test.true c.member-item.is (sym c.is_declared.ensures ∙ c.if-not-is_declared.false)

pub returns-then-not-is_declared : goal.returns-then-not-is_declared
returns-then-not-is_declared c =
    let test = λ (m : LentMember). is_declared (names_of c.args.attributes.now) m.key.now in
    sym (c.loop-member.invariant ∙ walk_ends test c.args.members.now c.loop-member.member-index c.member-item.result c.loop-member-test.true c.member-item.is (sym c.is_declared.ensures ∙ c.if-not-is_declared.true))

pub returns : goal.returns
returns c =
    let test = λ (m : LentMember). is_declared (names_of c.args.attributes.now) m.key.now in
    sym (c.loop-member.invariant ∙ ap (list_all test) (drop_all c.loop-member.member-index c.args.members.now c.loop-member-test.false))
