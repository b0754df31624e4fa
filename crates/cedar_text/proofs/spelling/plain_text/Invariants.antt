use Rattle.std.proofs.Common.{◌≡◌, ◌++◌, drop}
use Rattle.std.specs.List.{list_all}
use Rattle.std.specs.String.{string_bytes}
use Rattle.cedar_text.specs.Letters.{is_plain, utf8_of}
use Rattle.cedar_text.proofs.spelling.plain_text.Given as goal

abbrev pub invariant-loop-letter : goal.invariant-loop-letter
invariant-loop-letter l =
    (string_bytes l.text ++ utf8_of (drop l.letter-index l.letters) ≡ utf8_of l.letters) × (list_all is_plain (drop l.letter-index l.letters) ≡ list_all is_plain l.letters)
