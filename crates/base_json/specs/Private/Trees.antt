-- The tree of tokens.
use Rattle.std.specs.Prelude.{List, Option, option_and_then}
use Rattle.json.specs.Token.{Token}
use Rattle.json.specs.Json.{if_last, value}
use Rattle.serde_json.specs.Data.{Data}
use Rattle.serde_json.specs.Read.{of_json}

-- the tree of the tokens of a whole text
abbrev pub tree_of_tokens : List Token → Option Data
tree_of_tokens ts = option_and_then of_json (option_and_then (λ p. if_last p.0 p.1) (value 127 ts))
