use Rattle.std.proofs.Common.{◌≡◌, ◌++◌, drop, map}
use Rattle.serde_json.specs.Data.{array}
use Rattle.serde_json.specs.View.{items_of}
use Rattle.cedar_auth_spec.specs.AnswerJson.{erring_data}
use Rattle.cedar_auth.specs.Private.Tokens.{data_tokens, rest_tokens}
use Rattle.cedar_auth.proofs.answer.write_errings.Given as goal

abbrev pub invariant-loop-erring : goal.invariant-loop-erring
invariant-loop-erring l = record {
  before : l.writer.before ≡ l.fn.writer.before;
  tokens : l.writer.tokens ++ rest_tokens (items_of (map erring_data (drop l.erring-index l.errings)))
      ≡ l.fn.writer.tokens ++ data_tokens (array (items_of (map erring_data l.errings)));
}
