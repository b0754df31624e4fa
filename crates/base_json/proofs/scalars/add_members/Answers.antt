use Rattle.std.proofs.Common.{◌≡◌, ◌-◌, ◌∷◌, Some, string_bytes, sym, ap, ap₂, ◌∙◌, arith, rules}
use Rattle.json.specs.Json.{read_key, value}
use Rattle.json.proofs.Grammar.{read_key-shorter}
use Rattle.serde_json.specs.Data.{put}
use Rattle.serde_json.specs.View.{view, members_view}
use Rattle.base_json.specs.Private.Steps.{opening, members_after}
use Rattle.base_json.proofs.Reading.{member_read, member_refused, key_refused, members_over}
use Rattle.base_json.proofs.scalars.add_members.Goals as goal

pub returns-in_err-name-clause-err : goal.returns-in_err-name-clause-err
returns-in_err-name-clause-err c refused n depth enough =
    let l = c.members in
    let i = l.invariant.0 n depth enough in
    i.2 ∙ ap (λ ms. members_after ms depth i.0 l.reader) (sym c.in_ok-put.ensures.ok)
    ∙ key_refused (value depth) (members_view c.put.new.found.entries) i.0 l.reader c.in_err-name.ensures.value

pub returns-in_default-clause-ok : goal.returns-in_default-clause-ok
returns-in_default-clause-ok c n depth enough =
    let l = c.members in
    let i = l.invariant.0 n depth enough in
    i.2 ∙ ap (λ ms. members_after ms depth i.0 l.reader) (sym c.in_ok-put.ensures.ok)
    ∙ members_over (value depth) (members_view c.put.new.found.entries) i.0 l.reader c.next_key.new.self i.1 (grind arith)

pub returns-in_err-member-clause-err : goal.returns-in_err-member-clause-err
returns-in_err-member-clause-err c refused n depth enough =
    let l = c.members in
    let i = l.invariant.0 n depth enough in
    let k = c.in-Some.name.now in
    let s = c.next_key.new.self in
    let named : read_key l.reader ≡ Some (Some k, s) = grind arith in
    i.2 ∙ ap (λ ms. members_after ms depth i.0 l.reader) (sym c.in_ok-put.ensures.ok)
    ∙ member_refused (value depth) (members_view c.put.new.found.entries) i.0 k l.reader s named (c.read_step.ensures.err (grind arith) depth)

pub members-preserved : goal.members-preserved
members-preserved c =
    let l = c.members in
    let old = members_view c.put.new.found.entries in
    let k = c.in-Some.name.now in
    let s = c.next_key.new.self in
    let named : read_key l.reader ≡ Some (Some k, s) = grind arith in
    let done = c.in_ok-member.ensures in
    let scalar = rw c.in-Scalar.is at done.ok in
    let v = c.in-Scalar.member in
    let r = c.read_step.new.reader in
    let less = read_key-shorter l.reader (Some k) s named in
    let lesser = done.shorter in
    let copied : string_bytes c.in_ok-key.key ≡ k = search rules in (
      λ n depth enough.
          let p = value depth in
          let i = l.invariant.0 n depth enough in (
            i.0 - 1,
            omega (arith, i.1),
            i.2 ∙ ap (λ ms. members_after ms depth i.0 l.reader) (sym c.in_ok-put.ensures.ok)
                ∙ member_read p old i.0 k l.reader s r (view v) (omega (arith, i.1)) named (scalar depth)
                ∙ ap (λ name. members_after (put name (view v) old) depth (i.0 - 1) r) (sym copied),
          ),
      omega (arith, l.invariant.1),
    )

pub returns-in-Nested-clause-ok : goal.returns-in-Nested-clause-ok
returns-in-Nested-clause-ok c n depth enough =
    let l = c.members in
    let i = l.invariant.0 n depth enough in
    let k = c.in-Some.name.now in
    let s = c.next_key.new.self in
    let named : read_key l.reader ≡ Some (Some k, s) = grind arith in
    let nested : s ≡ opening c.in-Nested.opened ∷ c.read_step.new.reader = rw c.in-Nested.is at c.in_ok-member.ensures.ok in
    let copied : string_bytes c.in_ok-key.key ≡ k = search rules in (
      i.0,
      l.reader,
      i.1,
      named ∙ ap₂ (λ name more. Some (Some name, more)) (sym copied) nested,
      i.2 ∙ ap (λ ms. members_after ms depth i.0 l.reader) (sym c.in_ok-put.ensures.ok),
    )
