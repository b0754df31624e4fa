use Rattle.std.proofs.Common.{◌≡◌, ℕ, Option, IfSome, subst, ◌-◌, ◌+◌, ◌++◌, ◌∷◌, [], List, Some, None, length, drop, refl, sym, ap, ◌∙◌, arith}
use Rattle.json.specs.Json.{parse_map, read_key, value}
use Rattle.json.specs.Lex.{tokens}
use Rattle.json.specs.Token.{begin_object}
use Rattle.serde_json.specs.Data as Data
use Rattle.serde_json.specs.Data.{Members, no_members}
use Rattle.serde_json.specs.Read.{of_json, converted}
use Rattle.base_json.proofs.LentItems.{put_values_last}
use Rattle.base_json.proofs.PlainValues.{member_shorter, member_turn, object_opens, object_over}
use Rattle.base_json.proofs.Reading.{members_over, object_inside}
use Rattle.base_json.specs.LentItems.{put_values, value_view}
use Rattle.base_json.specs.Private.Plain.{ReadsMember, tokens_after}
use Rattle.base_json.specs.Private.Steps.{members_after}
use Rattle.base_json.specs.declared.lent_item.ItemMember.{ItemMember}
use Rattle.base_json.proofs.plain_item.item_at.Goals as goal

pub members-init : goal.members-init
members-init c =
    let ts = tokens (drop c.skip_spaces-next.result c.args.text.now) in
    (length ts, omega arith, λ depth enough. ap (λ (xs : List ItemMember). members_after (put_values xs no_members) depth (length ts) ts) (sym c.in_ok-members.ensures.items))

read : (c : goal.In_ok-push) → ReadsMember 2 c.args.text.now c.members.next c.in-Some-2.member.key.now (value_view c.in-Some-2.member.value) c.in-Some-2.after
read c =
    subst (λ (o : Option (ItemMember × ℕ)). IfSome o (λ f. ReadsMember 2 c.args.text.now c.members.next f.0.key.now (value_view f.0.value) f.1)) c.in-Some-2.is c.in_ok-member.ensures

pub members-smaller : goal.members-smaller
members-smaller c =
    let m = c.in-Some-2.member in
    member_shorter c.args.text.now c.members.next c.in-Some-2.after 2 m.key.now (value_view m.value) (read c)

pub members-preserved : goal.members-preserved
members-preserved c =
    let l = c.members in
    let text = c.args.text.now in
    let m : ItemMember = c.in-Some-2.member in
    let next = c.in-Some-2.after in
    let n = l.invariant.0 in
    let old = put_values l.members.items no_members in
    let shorter = member_shorter text l.next next 2 m.key.now (value_view m.value) (read c) in
    let more : put_values c.push.new.self.items no_members ≡ put_values (l.members.items ++ m ∷ []) no_members = ap (λ (xs : List ItemMember). put_values xs no_members) c.in_ok-push.ensures.items in (
      n - 1,
      omega (arith, l.invariant.1, shorter),
      λ depth enough. l.invariant.2 depth enough ∙ member_turn text l.next next 2 m.key.now (value_view m.value) (read c) old n depth enough l.invariant.1
          ∙ ap (λ (ms : Members). members_after ms depth (n - 1) (tokens (drop next text))) (sym (more ∙ put_values_last l.members.items m no_members)),
    )

pub returns : goal.returns
returns c depth enough =
    let l = c.members in
    let text = c.args.text.now in
    let bytes = c.as_bytes-bytes.result.now in
    let same : bytes ≡ text = grind arith in
    let brace = c.in-Some.ensures in
    let begin = c.skip_spaces-next.result in
    let opens : tokens (drop c.args.at text) ≡ begin_object ∷ tokens (drop begin text) =
    rw (← same) (object_opens bytes c.args.at c.in-Some.brace begin brace.lexemes brace.within brace.here c.skip_spaces-next.ensures) in
    let end = c.members-test.ensures in
    let over : read_key (tokens (drop l.next text)) ≡ Some (None, tokens_after text (l.next + 1)) = rw (← same) (object_over bytes l.next (end.within refl) (end.here refl)) in
    ap (λ ts. converted of_json (value depth ts)) opens ∙ object_inside depth (tokens (drop begin text)) (omega (arith, enough))
    ∙ ap (parse_map Data.object) (l.invariant.2 (depth - 1) (omega (arith, enough))
    ∙ members_over (value (depth - 1)) (put_values l.members.items no_members) l.invariant.0 (tokens (drop l.next text)) (tokens_after text (l.next + 1)) l.invariant.1 over)
