use Rattle.std.proofs.Common.{◌≡◌, ℕ, ◌+◌, ◌<◌, List, length, drop, get_or, Option, Some, None, IfSome}
use Rattle.json.specs.Lex.{between, lex, after_value, punctuate, tokens}
use Rattle.base_json.proofs.Bytes.{list_ends, object_follows}
use Rattle.base_json.proofs.behind.left_behind.Goals as goal

pub returns-in-Some-clause-tokens : goal.returns-in-Some-clause-tokens
returns-in-Some-clause-tokens c = list_ends c.args.bytes.now c.args.end c.in-Some.at c.in-Some.ensures.lexemes c.in-Some.ensures.within c.in-Some.ensures.here

if_brace : (bs : List ℕ) (end comma : ℕ) (o : Option ℕ) → lex between (drop end bs) ≡ lex between (drop comma bs) → comma < length bs → get_or bs comma 0 ≡ 44
    → IfSome o (λ at. lex between (drop (comma + 1) bs) ≡ lex between (drop at bs)) → IfSome o (λ at. at < length bs) → IfSome o (λ at. get_or bs at 0 ≡ 123)
    → IfSome o (λ at. punctuate after_value (lex between (drop end bs)) ≡ tokens (drop at bs))
if_brace bs end comma None spaces within here more within' here' = tt
if_brace bs end comma (Some at) spaces within here more within' here' = object_follows bs end comma at spaces within here more within' here'

pub returns-clause-tokens : goal.returns-clause-tokens
returns-clause-tokens c =
    let comma = c.in_ok-comma.ensures in
    let brace = c.next_at-3.ensures in
    if_brace c.args.bytes.now c.args.end c.in_ok-comma.comma c.next_at-3.result comma.lexemes comma.within comma.here brace.lexemes brace.within brace.here
