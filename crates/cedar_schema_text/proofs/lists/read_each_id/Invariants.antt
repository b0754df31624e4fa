use Rattle.std.proofs.Common.{◌≡◌, ◌-◌, map}
use Rattle.serde_json.specs.View.{view}
use Rattle.cedar_schema_text.specs.declared.token_kind.TokenKind.TheVariants as k
use Rattle.cedar_schema_text.specs.Grammar as spec
use Rattle.cedar_schema_text.specs.Reading.{items, items_from}
use Rattle.cedar_schema_text.proofs.lists.read_each_id.Given as goal

abbrev pub invariant-loop-turn : goal.invariant-loop-turn
invariant-loop-turn l = items spec.text k.RightBracket (map view l.fn.found.items) l.fn.tokens ≡ items_from spec.text k.RightBracket (l._turn-end - l._turn) (map view l.found.items) l.tokens
