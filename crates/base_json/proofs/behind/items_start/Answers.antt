use Rattle.std.proofs.Common.{◌≡◌, arith}
use Rattle.base_json.proofs.Bytes.{bracket_passed}
use Rattle.base_json.proofs.behind.items_start.Goals as goal

pub returns-then-is_char_boundary-clause-tokens : goal.returns-then-is_char_boundary-clause-tokens
returns-then-is_char_boundary-clause-tokens c =
    let same : c.as_bytes-bytes.result.now ≡ c.args.text.now = grind arith in
    let bracket = c.in_ok-bracket.ensures in
    rw (← same) (bracket_passed c.as_bytes-bytes.result.now c.in_ok-bracket.bracket c.skip_spaces-at.result bracket.lexemes bracket.within bracket.here c.skip_spaces-at.ensures)
