use Rattle.std.proofs.Common.{rules, arith, ◌≡◌, take, Some, None}
use Rattle.std.proofs.lemmas.Grind.{common_steps}
use Rattle.cedar_text.specs.Private.Lexing.{escape_len, escaped_letter}
use Rattle.cedar_text.proofs.Escapes.{no_escape_is}
use Rattle.cedar_text.proofs.Firsts.{escape_found, escape_known}
use Rattle.cedar_text.proofs.spelling.first_escape.Goals as goal

pub returns-in_default-clause-none : goal.returns-in_default-clause-none
returns-in_default-clause-none c =
    let none : escape_len c.args.bytes.now ≡ None = first_of (search rules, grind (arith, common_steps)) in λ front rest letter e i. no_escape_is c.args.bytes.now front rest letter none e i

pub returns-in-Some-escaped_letter-clause-found : goal.returns-in-Some-escaped_letter-clause-found
returns-in-Some-escaped_letter-clause-found c =
    let some : escape_len c.args.bytes.now ≡ Some c.in-Some.len = first_of (search rules, grind (arith, common_steps)) in
    let letter : escaped_letter (take c.in-Some.len c.args.bytes.now) ≡ Some c.in-Some-escaped_letter.letter = first_of (search rules, grind (arith, common_steps)) in
    escape_found c.args.bytes.now c.in-Some.len c.in-Some-escaped_letter.letter some letter

pub returns-in-None-clause-none : goal.returns-in-None-clause-none
returns-in-None-clause-none c =
    let some : escape_len c.args.bytes.now ≡ Some c.in-Some.len = first_of (search rules, grind (arith, common_steps)) in
    let none : escaped_letter (take c.in-Some.len c.args.bytes.now) ≡ None = first_of (search rules, grind (arith, common_steps)) in λ front rest letter e i. escape_known c.args.bytes.now c.in-Some.len some none
