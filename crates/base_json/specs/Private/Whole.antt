-- Lent values that are in one part.
use Rattle.std.specs.Prelude.{⊤}
use Rattle.base_json.specs.declared.lent_value.LentValue.{LentValue}
use Rattle.base_json.specs.declared.lent_value.LentValue.TheVariants.{String, Quoted, Object, Tree}

-- the value is not a string in two parts
abbrev pub IsWhole : LentValue → Type 0
IsWhole (String s) = ⊤
IsWhole (Quoted q) = ⊥
IsWhole (Object o) = ⊤
IsWhole (Tree v) = ⊤
