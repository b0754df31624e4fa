use Rattle.std.proofs.Common.{◌≡◌, ℕ, Option, IfSome, drop, subst, arith}
use Rattle.json.specs.Lex.{tokens}
use Rattle.base_json.proofs.PlainValues.{member_is}
use Rattle.base_json.specs.LentItems.{value_view}
use Rattle.base_json.specs.Private.Plain.{HasNoColon, ReadsValue, tokens_after}
use Rattle.base_json.specs.declared.item_value.ItemValue.{ItemValue}
use Rattle.base_json.proofs.plain_item.item_member_at.Goals as goal

pub returns-in-Some-after_value : goal.returns-in-Some-after_value
returns-in-Some-after_value c =
    let text = c.args.text.now in
    let same : c.as_bytes.result.now ≡ text = grind arith in
    let end = c.in-Some-2.end in
    let next = c.in-Some-after_value.next in
    let read : ReadsValue 2 text c.in-Some.begin (value_view c.in-Some-2.value) end =
    subst (λ (o : Option (ItemValue × ℕ)). IfSome o (λ f. ReadsValue 2 text c.in-Some.begin (value_view f.0) f.1)) c.in-Some-2.is c.in_ok-value.ensures in
    let colon : HasNoColon text end = rw (← same) c.in-Some-after_value.ensures.colon in
    let after : tokens_after text end ≡ tokens (drop next text) = rw (← same) c.in-Some-after_value.ensures.tokens in
    member_is text c.args.at c.in-Some.begin end next 2 c.in-Some.key.now (value_view c.in-Some-2.value) c.in-Some.ensures read colon after
