use Rattle.std.proofs.Common.{◌≡◌, drop}
use Rattle.std.specs.List.{list_all}
use Rattle.cedar_schema_types.specs.Types.{names_of}
use Rattle.cedar_conform_values.specs.Values.{is_declared}
use Rattle.cedar_conform_values.proofs.lent_record.are_declared.Given as goal

-- all are declared where those that are left are
abbrev pub invariant-loop-member : goal.invariant-loop-member
invariant-loop-member l = list_all (λ m. is_declared (names_of l.attributes) m.key.now) l.members ≡ list_all (λ m. is_declared (names_of l.attributes) m.key.now) (drop l.member-index l.members)
