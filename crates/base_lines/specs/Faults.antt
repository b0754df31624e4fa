-- The numbers of the faults of serving.
use Rattle.std.specs.Prelude.{ℕ}
use Rattle.base_lines.specs.declared.serve_fault.ServeFault.{ServeFault}
use Rattle.base_lines.specs.declared.serve_fault.ServeFault.TheVariants.{OutOfMemory, ReadFailed, WriteFailed}

-- The number of a fault: 1 is out of memory, 2 a failed read, 3 a failed write (own).
abbrev pub serve_number : ServeFault → ℕ
serve_number OutOfMemory = 1
serve_number ReadFailed = 2
serve_number WriteFailed = 3
