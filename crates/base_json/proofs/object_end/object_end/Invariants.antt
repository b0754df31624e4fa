use Rattle.std.proofs.Common.{◌≡◌, ◌≤◌, take}
use Rattle.json.specs.Lex.{between}
use Rattle.base_json.specs.Private.Modes.{mode_behind, mode_of}
use Rattle.base_json.proofs.object_end.object_end.Given as goal

-- no more braces were opened than bytes were passed
abbrev pub invariant-loop-i : goal.invariant-loop-i
invariant-loop-i l = (mode_behind between (take l.i l.bytes) ≡ mode_of l.mode) × (l.depth ≤ l.i)
