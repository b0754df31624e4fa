use Rattle.std.proofs.Common.{◌≡◌, arith}
use Rattle.base_json.proofs.PlainValues.{member_is}
use Rattle.base_json.specs.LentObjects.{part_view}
use Rattle.base_json.proofs.plain_member.member_at.Goals as goal

pub returns : goal.returns
returns c =
    let text = c.args.text.now in
    let same : c.as_bytes.result.now ≡ text = grind arith in
    let after = c.in_ok-next.ensures in
    member_is text c.args.at c.in_ok-key.begin c.in_ok-value.end c.in_ok-next.next 0 c.in_ok-key.key.now (part_view c.in_ok-value.value) c.in_ok-key.ensures c.in_ok-value.ensures
    (rw (← same) after.colon) (rw (← same) after.tokens)
