-- The attribute that two attributes join to.
use Rattle.std.specs.Prelude.{◌≡◌, Option, Some, None, ◌&&◌, bytes_eq, MatchOption}
use Rattle.cedar_schema_types.specs.Types.{TypeTree}
use Rattle.cedar_schema_types.specs.Joining.{join, only_if, same_bool}
use Rattle.cedar_schema_types.specs.declared.attribute.Attribute.{Attribute}

-- the type that two attributes of one key join to
abbrev pub joined_type : Attribute → Attribute → Option TypeTree
joined_type x y = only_if (bytes_eq x.name y.name && same_bool x.required y.required) (join x.ty y.ty)

-- the attribute that two join to, if any
abbrev pub JoinsAttribute : Option Attribute → Attribute → Attribute → Type 0
JoinsAttribute r x y = MatchOption r (joined_type x y ≡ None) (λ z. (z.name ≡ x.name) × (z.required ≡ x.required) × (joined_type x y ≡ Some z.ty))
