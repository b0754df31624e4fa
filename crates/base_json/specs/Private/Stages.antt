-- The tokens to come, from bytes or by tokens.
use Rattle.std.specs.Prelude.{List, []}
use Rattle.json.specs.Token.{Token}
use Rattle.json.specs.Lex.{tokens}
use Rattle.base_json.specs.declared.members.Stage.{Stage}
use Rattle.base_json.specs.declared.members.Stage.TheVariants.{Bytes, Tokens, OutOfMemory}

abbrev pub tokens_in : Stage → List Token
tokens_in (Bytes text scratch) = tokens text.now
tokens_in (Tokens reader) = reader
tokens_in OutOfMemory = []
