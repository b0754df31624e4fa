-- The JSON of the lines of a report (own; RFC 8259).
use Rattle.std.specs.Prelude.{ℕ, List, codes}
use Rattle.serde_json.specs.Data.{Data, number, unsigned, string, object, no_members, member}
use Rattle.cedar_value.specs.declared.uid.Uid.{Uid}
use Rattle.cedar_check_spec.specs.Reports.{FaultTree}

-- An action: `{"id":I,"type":T}` (own; Cedar language reference, entity identifiers).
abbrev pub action_data : Uid → Data
action_data action = object (member (codes "id") (string action.id) (member (codes "type") (string action.ty) no_members))

-- A fault, with its number: `{"action":A,"fault":N,"policy":P,"principal":T,"resource":T}` (own; Cedar documentation, policy
-- validation).
abbrev pub fault_data : FaultTree → ℕ → Data
fault_data f n =
    object (member (codes "action") (action_data f.action)
    (member (codes "fault") (number (unsigned n))
    (member (codes "policy") (string f.policy)
    (member (codes "principal") (string f.principal)
    (member (codes "resource") (string f.resource) no_members)))))

-- A policy that no request can satisfy, given by its id: `{"policy":P,"warning":650}` (own; Cedar documentation, policy
-- validation: impossible policies).
abbrev pub warning_data : List ℕ → Data
warning_data policy =
    object (member (codes "policy") (string policy) (member (codes "warning") (number (unsigned 650)) no_members))

-- How many faults and warnings there are: `{"faults":F,"warnings":W}` (own).
abbrev pub totals_data : ℕ → ℕ → Data
totals_data faults warnings =
    object (member (codes "faults") (number (unsigned faults)) (member (codes "warnings") (number (unsigned warnings)) no_members))
