use Rattle.std.proofs.Common.{◌≡◌, length, bytes_eq, codes, []}
use Rattle.std.specs.List.{list_any}
use Rattle.std.specs.Str.{IsUtf8}
use Rattle.cedar_value.specs.Names.{words_from}
use Rattle.cedar_schema_json.proofs.json.naming.is_reserved.Given as goal

abbrev pub invariant-walk : goal.invariant-walk
invariant-walk l = record {
  same : list_any (λ word. bytes_eq word (codes "__cedar")) (words_from [] l.fn.text) ≡ list_any (λ word. bytes_eq word (codes "__cedar")) (words_from [] l.rest);
  is_text : IsUtf8 l.rest;
}

abbrev pub decreases-walk : goal.decreases-walk
decreases-walk l = length l.rest
