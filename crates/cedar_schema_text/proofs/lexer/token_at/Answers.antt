use Rattle.std.proofs.Common.{sym, ◌∙◌}
use Rattle.cedar_schema_text.proofs.Bytes.{word_ends}
use Rattle.cedar_schema_text.proofs.lexer.token_at.Goals as goal

pub returns-then-is_letter-clause-ascii : goal.returns-then-is_letter-clause-ascii
returns-then-is_letter-clause-ascii c = rw c.word_len.ensures.len (word_ends c.args.bytes.now c.requires (rw c.byte_at-first.ensures at (sym c.is_letter.ensures ∙ c.if-is_letter.true)))
