-- What contracts see of a fault.
use Rattle.cedar_check_spec.specs.Reports.{FaultTree}
use Rattle.cedar_check.specs.declared.fault.Fault.{Fault}

-- The policy and the environment of a fault. The reason is left out; tests fix it (own).
abbrev pub fault_view : Fault → FaultTree
fault_view f = record { policy = f.policy; action = f.action; principal = f.principal; resource = f.resource }
