-- The bytes of the parts of a request.
use Rattle.cedar_conform.specs.Parts.{PartsTree}
use Rattle.cedar_c.specs.Deciding.{parts}
use Rattle.cedar_c.specs.declared.parts.RequestBytes.{RequestBytes}

-- The parts that these bytes give (own).
abbrev pub parts_in : RequestBytes → PartsTree
parts_in b = parts b.principal.ty.now b.principal.id.now b.action.ty.now b.action.id.now b.resource.ty.now b.resource.id.now b.context.now
