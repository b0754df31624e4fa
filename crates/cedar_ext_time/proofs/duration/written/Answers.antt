use Rattle.std.specs.Prelude.{string_bytes}
use Rattle.std.specs.Int.{w64}
use Rattle.std.specs.Int.RustNames.{FitsSigned}
use Rattle.std.proofs.lemmas.Int.{to_z-of_z}
use Rattle.cedar_ext_time.proofs.Written.{text_written}
use Rattle.cedar_ext_time.proofs.duration.written.Goals as goal

pub returns : goal.returns
returns c =
    let f : FitsSigned w64 c.args.milliseconds = c.ranges.milliseconds in
    let h = simp to_z-of_z at c.milliseconds_text.ensures in
    text_written (λ s. string_bytes s) c.args.milliseconds c.milliseconds_text.result f h
