-- Why the files hold no policies that are ready, where a file cannot be used or policies are not accepted.
use Rattle.std.specs.Prelude.{None}
use Rattle.cedar_auth.specs.declared.not_validated.NotValidated.{NotValidated}
use Rattle.cedar_auth.specs.declared.validation_fault.ValidationFault.{ValidationFault}
use Rattle.cedar_auth.specs.declared.validation_fault.ValidationFault.TheVariants as fault
use Rattle.cedar_files.specs.declared.files.Role.{Role}
use Rattle.cedar_files.specs.declared.files.Role.TheVariants.{Policies}
use Rattle.cedar_files.specs.declared.reading.Unread.{Unread}
use Rattle.cedar_files.specs.declared.reading.Unread.TheVariants as unread
use Rattle.cedar_files.specs.declared.unprepared.Unprepared.{Unprepared}
use Rattle.cedar_files.specs.declared.unprepared.Unprepared.TheVariants.{Refused, Faults, Unnamed, Device, Memory}

-- what a file of this role that cannot be used is to all files
abbrev pub unusable_of : Role → Unread → Unprepared
unusable_of role (unread.Refused refusal) = Refused role refusal
unusable_of role unread.Unnamed = Unnamed
unusable_of role unread.Device = Device
unusable_of role unread.Memory = Memory

-- what this fault of policies is to all files
abbrev pub unaccepted_by : NotValidated → ValidationFault → Unprepared
unaccepted_by refused fault.OutOfMemory = Memory
unaccepted_by refused (fault.Faults report) = Faults refused
unaccepted_by refused fault.TooLong = Refused Policies (record { number = 701; offset = None })

-- what policies that strict validation does not accept are to all files
abbrev pub unaccepted_of : NotValidated → Unprepared
unaccepted_of refused = unaccepted_by refused refused.fault
