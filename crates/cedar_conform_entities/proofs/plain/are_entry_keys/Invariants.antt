use Rattle.std.proofs.Common.{◌≡◌, drop}
use Rattle.std.specs.List.{list_all}
use Rattle.cedar_conform_entities.specs.Entries.{is_entry_key}
use Rattle.cedar_conform_entities.proofs.plain.are_entry_keys.Given as goal

-- the keys are allowed where those that are left are
abbrev pub invariant-loop-member : goal.invariant-loop-member
invariant-loop-member l = list_all (λ m. is_entry_key m.key.now) l.members ≡ list_all (λ m. is_entry_key m.key.now) (drop l.member-index l.members)
