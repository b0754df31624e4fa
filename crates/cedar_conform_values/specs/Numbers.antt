-- The numbers of refusals.
use Rattle.std.specs.Prelude.{ℕ}
use Rattle.cedar_conform_values.specs.declared.conform_fault.ConformFault.{ConformFault}
use Rattle.cedar_conform_values.specs.declared.conform_fault.ConformFault.TheVariants.{OutOfMemory, DuplicateEntity, Cycle, Json, Shape, UnknownType, WrongType, MissingAttribute, ExtraAttribute, BadAncestor, ActionDiffers, NumberRange, NoSuchAction, ActionDoesNotApply}

-- The number of each refusal, as docs/REFUSALS.md lists them (own).
abbrev pub number_of : ConformFault → ℕ
number_of OutOfMemory = 1
number_of (DuplicateEntity u) = 401
number_of (Cycle u) = 402
number_of Json = 501
number_of Shape = 502
number_of UnknownType = 503
number_of WrongType = 504
number_of MissingAttribute = 505
number_of ExtraAttribute = 506
number_of BadAncestor = 507
number_of ActionDiffers = 508
number_of NumberRange = 509
number_of NoSuchAction = 510
number_of ActionDoesNotApply = 511
