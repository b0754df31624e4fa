use Rattle.std.proofs.Common.{◌≡◌, ℕ, List, Option, Some, IfSome, drop, sym, ap, ◌∙◌, subst, arith}
use Rattle.json.specs.Json.{read_key, value}
use Rattle.json.proofs.Grammar.{read_key-shorter}
use Rattle.json.specs.Token.{Token}
use Rattle.serde_json.specs.Data.{Data}
use Rattle.json.specs.Lex.{tokens, between, lex, fresh, punctuate}
use Rattle.serde_json.specs.Read.{of_json, converted}
use Rattle.base_json.proofs.ComingMembers.{member_to_come}
use Rattle.base_json.proofs.PlainValues.{read_shorter}
use Rattle.base_json.specs.LentObjects.{object_view}
use Rattle.base_json.specs.Private.Plain.{ReadsNested, tokens_after}
use Rattle.base_json.specs.declared.lent_object.LentObject.{LentObject}
use Rattle.base_json.proofs.object_member.object_member.Goals as goal

abbrev object : goal.After-rest-in-Some-split_at_checked-1 → Data
object c = object_view c.in-Some-2.value

-- the tokens after the key
abbrev inside : goal.After-rest-in-Some-split_at_checked-1 → List Token
inside c = tokens (drop c.in-Some.begin c.args.text.now)

named : (c : goal.After-rest-in-Some-split_at_checked-1) → read_key (tokens c.args.text.now) ≡ Some (Some c.in-Some.key.now, inside c)
named c =
    let text = c.args.text.now in
    let same : c.as_bytes-bytes.result.now ≡ text = grind arith in
    let spaces : lex between text ≡ lex between (drop c.skip_spaces.result text) = rw (← same) c.skip_spaces.ensures in
    ap read_key (ap (punctuate fresh) spaces ∙ c.in-Some.ensures)

read : (c : goal.After-rest-in-Some-split_at_checked-1) → converted of_json (value 126 (inside c)) ≡ Some (object c, tokens c.in-Some-split_at_checked.rest.now)
read c =
    let text = c.args.text.now in
    let same : c.as_bytes-bytes.result.now ≡ text = grind arith in
    let rest = tokens c.in-Some-split_at_checked.rest.now in
    let after : tokens_after text c.in-Some-2.end ≡ rest = rw (← same) c.in-Some-after_value.ensures.tokens ∙ ap tokens (sym c.in-Some-split_at_checked.ensures.back) in
    let found : ReadsNested 1 text c.in-Some.begin (object c) c.in-Some-2.end =
    subst (λ (o : Option (LentObject × ℕ)). IfSome o (λ f. ReadsNested 1 text c.in-Some.begin (object_view f.0) f.1)) c.in-Some-2.is c.in_ok-value.ensures in
    found 126 (omega arith) ∙ ap (λ ts. Some (object c, ts)) after

pub returns-in-Some-split_at_checked-clause-begins : goal.returns-in-Some-split_at_checked-clause-begins
returns-in-Some-split_at_checked-clause-begins c old =
    let rest = tokens c.in-Some-split_at_checked.rest.now in
    member_to_come (tokens c.args.text.now) (inside c) rest c.in-Some.key.now (object c) (named c) (read c) (read_shorter 126 (inside c) rest (object c) (read c)) old

pub returns-in-Some-split_at_checked-clause-shorter : goal.returns-in-Some-split_at_checked-clause-shorter
returns-in-Some-split_at_checked-clause-shorter c =
    let rest = tokens c.in-Some-split_at_checked.rest.now in
    omega (arith, read_shorter 126 (inside c) rest (object c) (read c), read_key-shorter (tokens c.args.text.now) (Some c.in-Some.key.now) (inside c) (named c))
