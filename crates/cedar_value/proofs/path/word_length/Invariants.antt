use Rattle.std.proofs.Common.{IsTrue, take}
use Rattle.std.specs.List.{list_all}
use Rattle.cedar_value.specs.Names.{is_word_byte}
use Rattle.cedar_value.proofs.path.word_length.Given as goal

abbrev pub invariant-loop-place : goal.invariant-loop-place
invariant-loop-place l = IsTrue (list_all is_word_byte (take l.place l.fn.bytes))
