use Rattle.std.proofs.Common.{append_assoc}
use Rattle.cedar_files.proofs.report_lines.write_warning.Goals as goal

pub returns-clause-tokens : goal.returns-clause-tokens
returns-clause-tokens c =
    rw (c.in_ok-end_object.ensures.ok, c.in_ok-u64.ensures.ok, c.in_ok-key-2.ensures.ok, c.in_ok-string.ensures.ok, c.in_ok-key.ensures.ok, c.in_ok-begin_object.ensures.ok, c.as_str.ensures)
    (simp append_assoc)
