use Rattle.std.proofs.Common.{◌≡◌, ◌≤◌, ◌++◌, length, drop, map}
use Rattle.cedar_parser_tree.specs.WrittenKind.{fields_of}
use Rattle.cedar_parser_limits.specs.Limits.{keys_in}
use Rattle.cedar_parser_limits.proofs.expression_judgement.lent_keys.Given as goal

-- The keys that are lent, with those of the entries that are left, are all keys.
abbrev pub invariant-loop-field : goal.invariant-loop-field
invariant-loop-field l = (map (λ k. k.now) l.keys.items ++ keys_in (fields_of (drop l.field-index l.fields)) ≡ keys_in (fields_of l.fields)) × (length l.keys.items ≤ l.field-index)
