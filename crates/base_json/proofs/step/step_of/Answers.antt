use Rattle.std.proofs.Common.{◌≡◌, ◌∷◌, Some, None, sym, ap, ◌∙◌, arith, rules}
use Rattle.json.specs.Token.{Token}
use Rattle.json.specs.Json.{value}
use Rattle.json.specs.Reads.{token_of}
use Rattle.json.proofs.Grammar.{value_is}
use Rattle.serde_json.specs.Data.{null, boolean, number, string}
use Rattle.serde_json.specs.Read.{of_json, converted}
use Rattle.serde_json.specs.View.{view, number_view}
use Rattle.serde_json.specs.declared.value.Value.{String, Number, Bool, Null, the_lemmas}
use Rattle.base_json.proofs.step.step_of.Goals as goal

pub returns-in_ok-from_str-in-String-clause-ok : goal.returns-in_ok-from_str-in-String-clause-ok
returns-in_ok-from_str-in-String-clause-ok c rest depth =
    let is : token_of c.args.token ≡ Token.string c.in-String.text.now = grind arith in
    let seen : view (String c.in_ok-from_str-in-String.field-0) ≡ string c.in-String.text.now = search (rules, the_lemmas) in
    ap (converted of_json) (ap (λ t. value depth (t ∷ rest)) is ∙ value_is depth _) ∙ ap (λ d. Some (d, rest)) (sym seen)

pub returns-in-Some-clause-ok : goal.returns-in-Some-clause-ok
returns-in-Some-clause-ok c rest depth =
    let is : token_of c.args.token ≡ Token.number c.in-Number.text.now = grind arith in
    let seen : view (Number c.in-Some.number) ≡ number (number_view c.in-Some.number) = search (rules, the_lemmas) in
    ap (converted of_json) (ap (λ t. value depth (t ∷ rest)) is ∙ value_is depth _) ∙ rw (← c.in-Some.ensures, seen)

pub returns-in-None-clause-err : goal.returns-in-None-clause-err
returns-in-None-clause-err c refused rest depth =
    let is : token_of c.args.token ≡ Token.number c.in-Number.text.now = grind arith in
    ap (converted of_json) (ap (λ t. value depth (t ∷ rest)) is ∙ value_is depth _) ∙ rw (← c.in-None.ensures)

pub returns-in-Bool-clause-ok : goal.returns-in-Bool-clause-ok
returns-in-Bool-clause-ok c rest depth =
    let is : token_of c.args.token ≡ Token.boolean c.in-Bool.b = grind arith in
    let seen : view (Bool c.in-Bool.b) ≡ boolean c.in-Bool.b = search (rules, the_lemmas) in
    ap (converted of_json) (ap (λ t. value depth (t ∷ rest)) is ∙ value_is depth _) ∙ ap (λ d. Some (d, rest)) (sym seen)

pub returns-in-Null-clause-ok : goal.returns-in-Null-clause-ok
returns-in-Null-clause-ok c rest depth =
    let is : token_of c.args.token ≡ Token.null = grind arith in
    let seen : view (Null) ≡ null = search (rules, the_lemmas) in
    ap (converted of_json) (ap (λ t. value depth (t ∷ rest)) is ∙ value_is depth _) ∙ ap (λ d. Some (d, rest)) (sym seen)

pub returns-in-EndObject-clause-err : goal.returns-in-EndObject-clause-err
returns-in-EndObject-clause-err c refused rest depth =
    let none : value depth (token_of c.args.token ∷ rest) ≡ None = rw (value_is depth (token_of c.args.token ∷ rest)) (grind arith) in
    ap (converted of_json) none
