use Rattle.base_json.proofs.PlainValues.{brace_comes, quote_comes}
use Rattle.base_json.proofs.plain_member.after_value.Goals as goal

pub returns-in-Some-clause-colon : goal.returns-in-Some-clause-colon
returns-in-Some-clause-colon c =
    let brace = c.in-Some.ensures in
    (brace_comes c.args.bytes.now c.args.end c.in-Some.brace brace.lexemes brace.within brace.here).0

pub returns-in-Some-clause-tokens : goal.returns-in-Some-clause-tokens
returns-in-Some-clause-tokens c =
    let brace = c.in-Some.ensures in
    (brace_comes c.args.bytes.now c.args.end c.in-Some.brace brace.lexemes brace.within brace.here).1

pub returns-clause-colon : goal.returns-clause-colon
returns-clause-colon c =
    let comma = c.in_ok-comma.ensures in
    let quote = c.in_ok-quote.ensures in
    (quote_comes c.args.bytes.now c.args.end c.in_ok-comma.comma c.in_ok-quote.quote comma.lexemes comma.within comma.here quote.lexemes quote.within quote.here).0

pub returns-clause-tokens : goal.returns-clause-tokens
returns-clause-tokens c =
    let comma = c.in_ok-comma.ensures in
    let quote = c.in_ok-quote.ensures in
    (quote_comes c.args.bytes.now c.args.end c.in_ok-comma.comma c.in_ok-quote.quote comma.lexemes comma.within comma.here quote.lexemes quote.within quote.here).1
