use Rattle.std.proofs.Common.{rules, arith, ◌≢◌, subst, drop}
use Rattle.std.proofs.lemmas.Grind.{common_steps}
use Rattle.std.proofs.lemmas.List.{take_rest}
use Rattle.cedar_text.specs.Private.FirstLetter.{BeginsWith, StartsEscape, StartsNoEscape}
use Rattle.cedar_text.proofs.Firsts.{quote_none, star_first, plain_first, escape_first, escape_none}
use Rattle.cedar_text.proofs.spelling.first_letter.Goals as goal

pub returns-in-34-clause-none : goal.returns-in-34-clause-none
returns-in-34-clause-none c = quote_none c.args.text.now (subst (BeginsWith c.args.text.now) c.in-34.is c.in-Some.ensures.first)

pub returns-in-42-clause-found : goal.returns-in-42-clause-found
returns-in-42-clause-found c = star_first c.args.text.now c.utf8.text (subst (BeginsWith c.args.text.now) c.in-42.is c.in-Some.ensures.first)

pub returns-in-Some-first_escape-clause-found : goal.returns-in-Some-first_escape-clause-found
returns-in-Some-first_escape-clause-found c =
    let there : StartsEscape (drop 1 c.args.text.now) c.in-Some-first_escape.letter c.in-Some-first_escape.len = rw (take_rest, c.as_bytes.ensures.value) at c.in-Some-first_escape.ensures.found in
    escape_first c.args.text.now c.in-Some-first_escape.letter c.in-Some-first_escape.len c.utf8.text (subst (BeginsWith c.args.text.now) c.in-92.is c.in-Some.ensures.first) there

pub returns-in-None-clause-none : goal.returns-in-None-clause-none
returns-in-None-clause-none c =
    let none : StartsNoEscape (drop 1 c.args.text.now) = rw (take_rest, c.as_bytes.ensures.value) at c.in-None.ensures.none in
    escape_none c.args.text.now (subst (BeginsWith c.args.text.now) c.in-92.is c.in-Some.ensures.first) none

pub returns-in_default-c-clause-found : goal.returns-in_default-c-clause-found
returns-in_default-c-clause-found c =
    let quote : c.in-Some.c ≢ 34 = first_of (search rules, grind (arith, common_steps)) in
    let backslash : c.in-Some.c ≢ 92 = first_of (search rules, grind (arith, common_steps)) in
    let star : c.in-Some.c ≢ 42 = first_of (search rules, grind (arith, common_steps)) in
    rw c.len_utf8.ensures.value (plain_first c.args.text.now c.in-Some.c c.utf8.text c.in-Some.ensures.first c.in-Some.ensures.scalar quote backslash star)
