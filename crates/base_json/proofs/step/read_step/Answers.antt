use Rattle.std.proofs.Common.{◌≡◌, [], ap, ◌∙◌, arith}
use Rattle.json.specs.Json.{value}
use Rattle.json.proofs.Grammar.{value_is}
use Rattle.serde_json.specs.Read.{of_json, converted}
use Rattle.base_json.proofs.step.read_step.Goals as goal

pub returns-in_err-token-clause-err : goal.returns-in_err-token-clause-err
returns-in_err-token-clause-err c refused depth =
    let empty : c.args.reader.now ≡ [] = grind arith in
    ap (converted of_json) (ap (value depth) empty ∙ value_is depth [])
