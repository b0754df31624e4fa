-- The exit status of each end.
use Rattle.std.specs.Prelude.{ℕ}
use Rattle.cedar_files.specs.declared.ending.End.{End}
use Rattle.cedar_files.specs.declared.ending.End.TheVariants.{Done, Refused, Faults, CommandLine, Device, Memory}

-- The exit status of an end: 0 where the work was done, 2 for a refused file, 3 for policies with faults, 4 for a refused
-- command line, 1 where a device failed or memory ran out (own).
abbrev pub status_of : End → ℕ
status_of Done = 0
status_of Refused = 2
status_of Faults = 3
status_of CommandLine = 4
status_of Device = 1
status_of Memory = 1
