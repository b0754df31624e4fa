use Rattle.std.proofs.Common.{sym, ap, ◌∙◌}
use Rattle.json.specs.Lex.{after_value, begins_colon, between, lex, punctuate}
use Rattle.base_json.proofs.QuotedMembers.{brace_after_value, brace_no_colon, comma_no_colon, quote_after_comma}
use Rattle.json.specs.Lex.{tokens}
use Rattle.base_json.proofs.quoted_member.past_comma.Goals as goal

pub returns-in-Some-clause-value : goal.returns-in-Some-clause-value
returns-in-Some-clause-value c = ap (λ xs. begins_colon (lex between xs)) c.in-Some.ensures ∙ comma_no_colon c.in-Some.more.now

pub returns-in-Some-clause-rest : goal.returns-in-Some-clause-rest
returns-in-Some-clause-rest c =
    ap (λ xs. punctuate after_value (lex between xs)) c.in-Some.ensures
    ∙ quote_after_comma c.in-Some.more.now c.in_ok-next.next.now c.in_ok-after.field-0.now c.in_ok-next.ensures c.in_ok-after.ensures

pub returns-clause-value : goal.returns-clause-value
returns-clause-value c = ap (λ xs. begins_colon (lex between xs)) c.in_ok-after-2.ensures ∙ brace_no_colon c.in_ok-after-2.field-0.now

pub returns-clause-rest : goal.returns-clause-rest
returns-clause-rest c =
    let brace = c.in_ok-after-2.ensures in
    ap (λ xs. punctuate after_value (lex between xs)) brace ∙ brace_after_value c.in_ok-after-2.field-0.now ∙ ap tokens (sym brace)
