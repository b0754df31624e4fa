use Rattle.std.proofs.Common.{sym, ◌∙◌}
use Rattle.cedar_schema_text.proofs.Denoting.{denoted_by, unspelled}
use Rattle.cedar_schema_text.proofs.strings.denoted.Goals as goal

pub returns-in-Ok : goal.returns-in-Ok
returns-in-Ok c = denoted_by c.one_spelling.ensures c.args.raw.now c.in-Ok.letters.items c.plain_text.result c.in-Ok.ensures.found (rw c.deref.ensures.value at c.plain_text.ensures)

pub returns-in-Err-2 : goal.returns-in-Err-2
returns-in-Err-2 c = unspelled c.args.raw.now c.in-Err.fault (sym c.is_memory.ensures ∙ c.if-is_memory.false) c.in-Err.ensures.only
