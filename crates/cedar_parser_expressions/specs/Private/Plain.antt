-- Reading what is neither named nor in brackets.
use Rattle.std.specs.Prelude.{List, ℕ, true, false, Option, Some, None, Ok, Err}
use Rattle.cedar_text.specs.declared.token_kind.TokenKind.{TokenKind}
use Rattle.cedar_text.specs.declared.token_kind.TokenKind.TheVariants as k
use Rattle.cedar_parser_tokens.specs.Marks.{Mark}
use Rattle.cedar_parser_tree.specs.Written as w
use Rattle.cedar_parser_tree.specs.Written.{Written}
use Rattle.cedar_parser_expressions.specs.Reading.{Parser, Syntax, and_then, next, first, text, slot, uid_of}

-- A truth, a number, a string or a slot is read, according to the kind of the first token.
abbrev pub plain_by : TokenKind → Mark → Parser Written
plain_by k.True t ts = Ok (w.truth true, next ts)
plain_by k.False t ts = Ok (w.truth false, next ts)
plain_by k.Number t ts = Ok (w.number t.number, next ts)
plain_by k.String t ts = and_then (text ts) (λ c us. Ok (w.text c, us))
plain_by k.Slot t ts = slot ts
plain_by _ t ts = Err Syntax

-- A truth, a number, a string or a slot is read where there is a first token.
abbrev pub plain_of : Option Mark → Parser Written
plain_of None ts = Err Syntax
plain_of (Some t) ts = plain_by t.kind t ts

-- A truth, a number, a string or a slot is read.
unfoldable pub plain : Parser Written
plain ts = plain_of (first ts) ts

-- A uid is read after its type.
unfoldable pub of_uid : List ℕ → Parser Written
of_uid ty ts = and_then (uid_of ty ts) (λ u us. Ok (w.entity u, us))
