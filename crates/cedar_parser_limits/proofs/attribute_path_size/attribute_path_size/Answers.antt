use Rattle.std.proofs.Common.{◌<◌, ◌∙◌, sym, length, arith}
use Rattle.cedar_parser_limits.proofs.AskedLemmas.{sizes_next, sizes_end, sizes_all}
use Rattle.cedar_parser_limits.proofs.attribute_path_size.attribute_path_size.Goals as goal

pub loop-name-preserved : goal.loop-name-preserved
loop-name-preserved c =
    let within : c.loop-name._name-index < length c.args.more.now = omega arith in
    sizes_next c.loop-name.asked c.loop-name.place c.above-next.result c.above_both-asked.result c.above-next.result c.args.more.now c.loop-name._name-index within c.above-next.ensures c.above_both-asked.ensures c.above-next.ensures
    ∙ c.loop-name.invariant

pub returns : goal.returns
returns c = λ a first e. sym (sizes_end c.loop-name.asked c.loop-name.place c.args.more.now c.loop-name._name-index c.loop-name-test.false) ∙ c.loop-name.invariant ∙ sizes_all c.args.operand a first c.args.more.now e
