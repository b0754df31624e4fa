use Rattle.std.proofs.Common.{rules, arith, ◌<◌, length, get_or}
use Rattle.std.proofs.lemmas.Grind.{common_steps}
use Rattle.std.proofs.lemmas.Str.{IsCharBoundary-after_ascii}
use Rattle.cedar_text.proofs.spelling.between_quotes.Goals as goal

pub range-requires-clause-start_boundary : goal.range-requires-clause-start_boundary
range-requires-clause-start_boundary c =
    let some : 0 < length c.args.text.now = first_of (search rules, grind (arith, common_steps)) in
    let quote : get_or c.args.text.now 0 0 < 128 = first_of (search rules, grind (arith, common_steps)) in λ _. IsCharBoundary-after_ascii c.args.text.now 0 c.utf8.text some quote
