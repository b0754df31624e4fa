use Rattle.std.proofs.Common.{◌≡◌, arith}
use Rattle.base_json.proofs.PlainValues.{key_read}
use Rattle.base_json.proofs.plain_member.key_at.Goals as goal

pub returns : goal.returns
returns c =
    let text = c.args.text.now in
    let same : c.as_bytes-bytes.result.now ≡ text = grind arith in
    let colon = c.in_ok-colon.ensures in
    rw (← same) (key_read c.as_bytes-bytes.result.now c.in_ok-key.key.now c.args.at c.in_ok-key.end c.in_ok-colon.colon c.skip_spaces.result (rw same c.in_ok-key.ensures) colon.lexemes colon.within colon.here c.skip_spaces.ensures)
