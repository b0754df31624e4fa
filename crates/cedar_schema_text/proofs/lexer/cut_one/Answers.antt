use Rattle.cedar_schema_text.proofs.Bytes.{token_ends}
use Rattle.cedar_schema_text.proofs.lexer.cut_one.Goals as goal

pub split_at-requires : goal.split_at-requires
split_at-requires c =
    token_ends c.args.text.now c.in_ok-kind.len c.in_ok-kind.ensures.some (rw c.as_bytes.ensures.value at c.in_ok-kind.ensures.within)
    (rw c.as_bytes.ensures.value at c.in_ok-kind.ensures.ascii) c.utf8.text
