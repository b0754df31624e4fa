use Rattle.std.proofs.Common.{◌≡◌, ◌-◌}
use Rattle.serde_json.specs.View.{members_view}
use Rattle.cedar_schema_text.specs.declared.token_kind.TokenKind.TheVariants as k
use Rattle.cedar_schema_text.specs.Grammar as spec
use Rattle.cedar_schema_text.specs.Reading.{items, items_from}
use Rattle.cedar_schema_text.proofs.action.read_each_applies.Given as goal

abbrev pub invariant-loop-turn : goal.invariant-loop-turn
invariant-loop-turn l = items spec.applies k.RightBrace (members_view l.fn.found.entries) l.fn.tokens ≡ items_from spec.applies k.RightBrace (l._turn-end - l._turn) (members_view l.found.entries) l.tokens
