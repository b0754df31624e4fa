use Rattle.cedar_schema_text.proofs.Bytes.{line_ends}
use Rattle.cedar_schema_text.proofs.lexer.from_line_end.Goals as goal

pub range_from-requires : goal.range_from-requires
range_from-requires c = line_ends c.args.text.now c.line_len.result (rw c.as_bytes.ensures.value at c.line_len.ensures.len)
