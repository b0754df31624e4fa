-- What contracts see of what was read of a schema.
use Rattle.serde_json.specs.View.{members_view}
use Rattle.cedar_schema_text.specs.declared.declaration.Spaces.{Spaces}
use Rattle.cedar_schema_text.specs.Objects.{sections_of}
use Rattle.cedar_schema_text.specs.Grammar as grammar

abbrev pub spaces_of : Spaces → grammar.Spaces
spaces_of s = record { bare = sections_of s.bare; named = members_view s.named.entries }
