use Rattle.std.proofs.Common.{append_assoc}
use Rattle.cedar_ext_time.proofs.datetime_written.text_of.Goals as goal

pub returns : goal.returns
returns c =
    let joined = simp (
      c.laid_out.ensures,
      c.laid_out-2.ensures,
      c.laid_out-3.ensures,
      c.laid_out-4.ensures,
      c.laid_out-5.ensures,
      c.laid_out-6.ensures,
      c.laid_out-7.ensures,
      append_assoc,
    ) at c.format.ensures.ok in
    simp append_assoc joined
