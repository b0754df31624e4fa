use Rattle.std.proofs.Common.{◌-◌, ◌≤◌, length, drop, arith}
use Rattle.std.proofs.Math.Nat.{min-le_right}
use Rattle.std.proofs.lemmas.List.{length-take}
use Rattle.base_lines.proofs.Firsts.{read-Consumes, first_of-IsAtEnd}
use Rattle.base_lines.proofs.source.std_source.StdSourceSource.read.Goals as goal

-- src/source/std_source.rt:52:5
pub returns-in-Ok-clause-bytes : goal.returns-in-Ok-clause-bytes
returns-in-Ok-clause-bytes g c =
    let low : c.in-Ok.count ≤ c.self.inside.can_give = omega (arith, c.read.auto.buf, c.in-Ok.ensures.bound.0, c.min-room.ensures, length-take c.min-room.result c.args.buf.now, min-le_right (length c.args.buf.now) c.self.inside.can_give) in (
      read-Consumes g.R.Read.remaining _ c.args.self.now c.self.view_is c.in-Ok.count (g.R.Read.remaining c.read.new.self) c.read.new.buf (drop c.min-room.result c.args.buf.now) c.in-Ok.ensures.bound.0 low c.in-Ok.ensures.bytes.0,
      λ z p. first_of-IsAtEnd (c.self.inside.can_give - c.in-Ok.count) (g.R.Read.remaining c.read.new.self) (c.in-Ok.ensures.bytes.1 z (omega (arith, z, p, c.read.auto.buf, c.min-room.ensures, c.if-room-eq0.false, length-take c.min-room.result c.args.buf.now))),
    )
