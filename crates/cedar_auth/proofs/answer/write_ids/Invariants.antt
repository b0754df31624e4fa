use Rattle.std.proofs.Common.{◌≡◌, ◌++◌, drop, map}
use Rattle.serde_json.specs.Data.{string, array}
use Rattle.serde_json.specs.View.{items_of}
use Rattle.cedar_auth.specs.Private.Tokens.{data_tokens, rest_tokens}
use Rattle.cedar_auth.proofs.answer.write_ids.Given as goal

abbrev pub invariant-loop-id : goal.invariant-loop-id
invariant-loop-id l = record {
  before : l.writer.before ≡ l.fn.writer.before;
  tokens : l.writer.tokens ++ rest_tokens (items_of (map string (map (λ id. id.now) (drop l.id-index l.ids))))
      ≡ l.fn.writer.tokens ++ data_tokens (array (items_of (map string (map (λ id. id.now) l.ids))));
}
