use Rattle.std.proofs.Common.{sym, ◌∙◌}
use Rattle.cedar_ext_ip.proofs.Sixes.{six_found, six_none}
use Rattle.cedar_ext_ip.proofs.text.read_six.Goals as goal

pub returns-in-Ok : goal.returns-in-Ok
returns-in-Ok c = six_found _ _ _ _ (sym c.contains.ensures.value ∙ c.if-contains.false) c.in-Ok.ensures c.segments.ensures c.of_groups.ensures

pub returns-in-Err : goal.returns-in-Err
returns-in-Err c = six_none _ (sym c.contains.ensures.value ∙ c.if-contains.false) c.in-Err.ensures
