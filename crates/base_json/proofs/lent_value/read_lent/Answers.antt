use Rattle.std.proofs.Common.{◌≡◌, ◌<◌, List, [], ◌∷◌, ap, ◌∙◌, arith}
use Rattle.json.specs.Json.{parse_map, value}
use Rattle.json.specs.Reads.{token_of}
use Rattle.json.specs.Token.{Token}
use Rattle.json.specs.declared.token.Token.{Token as TokenRead}
use Rattle.json.specs.declared.token.Token.TheVariants.{BeginObject}
use Rattle.json.proofs.Grammar.{value_is}
use Rattle.serde_json.specs.Data.{object}
use Rattle.serde_json.specs.Read.{of_json, converted}
use Rattle.base_json.specs.declared.step.Opened.TheVariants.{Object}
use Rattle.base_json.proofs.Reading.{none_too_deep, object_inside}
use Rattle.base_json.proofs.lent_value.read_lent.Goals as goal

opened : (ts : List Token) (t : TokenRead) (rest : List Token) → t ≡ BeginObject → ts ≡ token_of t ∷ rest → ts ≡ Token.begin_object ∷ rest
opened ts t rest is first = first ∙ ap (λ k. token_of k ∷ rest) is

pub returns-in_default-clause-err : goal.returns-in_default-clause-err
returns-in_default-clause-err c refused =
    let empty : c.args.reader.now ≡ [] = grind arith in
    ap (converted of_json) (ap (value c.args.depth) empty ∙ value_is c.args.depth [])

pub returns-in-String-clause-ok : goal.returns-in-String-clause-ok
returns-in-String-clause-ok c =
    let first : c.args.reader.now ≡ token_of c.in-Some.token ∷ c.next.new.self = grind arith in
    let is : c.args.reader.now ≡ Token.string c.in-String.text.now ∷ c.next.new.self = grind (arith, first) in
    ap (converted of_json) (ap (value c.args.depth) is ∙ value_is c.args.depth _)

pub returns-then-depth-eq0-clause-err : goal.returns-then-depth-eq0-clause-err
returns-then-depth-eq0-clause-err c refused =
    let is = opened c.args.reader.now c.in-Some.token c.next.new.self c.in-BeginObject.is c.in-Some.ensures.value in
    ap (λ ts. converted of_json (value c.args.depth ts)) is ∙ ap (λ n. converted of_json (value n (Token.begin_object ∷ c.next.new.self))) c.if-depth-eq0.true
    ∙ none_too_deep Object c.next.new.self

pub returns-in-Ok-clause-ok : goal.returns-in-Ok-clause-ok
returns-in-Ok-clause-ok c =
    let is = opened c.args.reader.now c.in-Some.token c.next.new.self c.in-BeginObject.is c.in-Some.ensures.value in
    let some : 0 < c.args.depth = omega arith in
    ap (λ ts. converted of_json (value c.args.depth ts)) is ∙ object_inside c.args.depth c.next.new.self some ∙ ap (parse_map object) c.in-Ok.ensures.ok

pub returns-in-Err-clause-err : goal.returns-in-Err-clause-err
returns-in-Err-clause-err c refused =
    let is = opened c.args.reader.now c.in-Some.token c.next.new.self c.in-BeginObject.is c.in-Some.ensures.value in
    let some : 0 < c.args.depth = omega arith in
    ap (λ ts. converted of_json (value c.args.depth ts)) is ∙ object_inside c.args.depth c.next.new.self some ∙ ap (parse_map object) (c.in-Err.ensures.err (grind arith))
