use Rattle.std.proofs.Common.{append_assoc}
use Rattle.cedar_files.proofs.report_lines.write_fault.Goals as goal

pub returns-clause-tokens : goal.returns-clause-tokens
returns-clause-tokens c =
    rw (c.in_ok-end_object.ensures.ok, c.in_ok-string-3.ensures.ok, c.in_ok-key-5.ensures.ok, c.in_ok-string-2.ensures.ok, c.in_ok-key-4.ensures.ok, c.in_ok-string.ensures.ok, c.in_ok-key-3.ensures.ok, c.in_ok-u64.ensures.ok, c.in_ok-key-2.ensures.ok, c.in_ok-write_action.ensures.tokens, c.in_ok-key.ensures.ok, c.in_ok-begin_object.ensures.ok, c.as_str.ensures, c.as_str-2.ensures, c.as_str-3.ensures, c.from.ensures, c.number.ensures)
    (simp append_assoc)
