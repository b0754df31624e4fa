-- The numbers of faults.
use Rattle.std.specs.Prelude.{ℕ}
use Rattle.cedar_check_operators.specs.declared.type_fault.TypeFault.{TypeFault}
use Rattle.cedar_check_operators.specs.declared.type_fault.TypeFault.TheVariants.{Undeclared, Unguarded, NoAttribute, NoJoin, EmptySet, OperandKind, NoLiteral}

-- The number of a fault, as reports have it (own).
abbrev pub number_of : TypeFault → ℕ
number_of Undeclared = 601
number_of Unguarded = 602
number_of NoAttribute = 603
number_of NoJoin = 604
number_of EmptySet = 605
number_of OperandKind = 606
number_of NoLiteral = 607
