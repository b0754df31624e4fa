use Rattle.std.proofs.Common.{refl, sym, ◌∙◌}
use Rattle.cedar_schema_text.proofs.Bytes.{end_goes_on, end_here, end_nowhere}
use Rattle.cedar_schema_text.proofs.lexer.string_end.Goals as goal

pub returns-then-closes-clause-value : goal.returns-then-closes-clause-value
returns-then-closes-clause-value c = sym (end_here c.loop-at.escaped c.args.bytes.now c.loop-at.at _ _ c.loop-at-test.true refl (sym c.closes.ensures ∙ c.if-closes.true) c.loop-at.invariant)

pub loop-at-preserved : goal.loop-at-preserved
loop-at-preserved c =
    rw c.escapes-escaped.ensures (end_goes_on c.loop-at.escaped c.args.bytes.now c.loop-at.at _ _ c.loop-at-test.true refl (sym c.closes.ensures ∙ c.if-closes.false) c.loop-at.invariant)

pub returns-clause-value : goal.returns-clause-value
returns-clause-value c = sym (end_nowhere c.loop-at.escaped c.args.bytes.now c.loop-at.at _ c.loop-at-test.false c.loop-at.invariant)
