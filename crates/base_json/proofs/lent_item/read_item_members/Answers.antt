use Rattle.std.proofs.Common.{◌≡◌, ◌-◌, ◌++◌, ◌∷◌, [], List, Some, length, sym, ap, ◌∙◌, arith}
use Rattle.json.specs.Json.{read_key, value}
use Rattle.json.proofs.Grammar.{read_key-shorter}
use Rattle.serde_json.specs.Data.{Members, no_members}
use Rattle.base_json.specs.LentItems.{put_values, value_view}
use Rattle.base_json.specs.Private.Steps.{members_after}
use Rattle.base_json.specs.declared.lent_item.ItemMember.{ItemMember}
use Rattle.base_json.proofs.LentItems.{put_values_last}
use Rattle.base_json.proofs.Reading.{member_read, member_refused, key_refused, members_over}
use Rattle.base_json.proofs.lent_item.read_item_members.Goals as goal

pub members-init : goal.members-init
members-init c =
    let n = length c.args.reader.now in
    (n, omega arith, ap (λ (xs : List ItemMember). members_after (put_values xs no_members) c.args.depth n c.args.reader.now) (sym c.new-found.ensures.items), omega arith)

pub returns-in_err-key-clause-err : goal.returns-in_err-key-clause-err
returns-in_err-key-clause-err c refused =
    let l = c.members in
    l.invariant.2 ∙ key_refused (value c.args.depth) (put_values l.found.items no_members) l.invariant.0 l.reader c.in_err-key.ensures.value

pub returns-in_err-lent-clause-err : goal.returns-in_err-lent-clause-err
returns-in_err-lent-clause-err c refused =
    let l = c.members in
    let k = c.in-Some.key.now in
    let s = c.next_key.new.self in
    let named : read_key l.reader ≡ Some (Some k, s) = grind arith in
    l.invariant.2 ∙ member_refused (value c.args.depth) (put_values l.found.items no_members) l.invariant.0 k l.reader s named (c.read_lent.ensures.err (grind arith))

pub members-preserved : goal.members-preserved
members-preserved c =
    let l = c.members in
    let p = value c.args.depth in
    let old = put_values l.found.items no_members in
    let n = l.invariant.0 in
    let k = c.in-Some.key.now in
    let s = c.next_key.new.self in
    let named : read_key l.reader ≡ Some (Some k, s) = grind arith in
    let v = c.of_lent-value.result in
    let r = c.read_lent.new.reader in
    let less = read_key-shorter l.reader (Some k) s named in
    let lesser = c.in_ok-lent.ensures.shorter in
    let m : ItemMember = record { key = c.in-Some.key; value = v } in
    let more : put_values c.push.new.self.items no_members ≡ put_values (l.found.items ++ m ∷ []) no_members = ap (λ (xs : List ItemMember). put_values xs no_members) c.in_ok-push.ensures.items in (
      n - 1,
      omega (arith, l.invariant.1),
      l.invariant.2 ∙ member_read p old n k l.reader s r (value_view v) (omega (arith, l.invariant.1)) named (c.in_ok-lent.ensures.ok ∙ ap (λ d. Some (d, r)) (sym c.of_lent-value.ensures))
          ∙ ap (λ (ms : Members). members_after ms c.args.depth (n - 1) r) (sym (more ∙ put_values_last l.found.items m no_members)),
      omega (arith, l.invariant.3),
    )

pub returns-clause-ok : goal.returns-clause-ok
returns-clause-ok c =
    let l = c.members in
    l.invariant.2 ∙ members_over (value c.args.depth) (put_values l.found.items no_members) l.invariant.0 l.reader c.next_key.new.self l.invariant.1 (grind arith)
