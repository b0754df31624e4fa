-- How a report is written policy by policy.
use Rattle.std.specs.Prelude.{◌≡◌, ℕ, Bool, false, cond, List, [], ◌∷◌, ◌++◌}
use Rattle.std.specs.Str.{bytes_eq}
use Rattle.cedar_check_spec.specs.Reports.{FaultTree}
use Rattle.cedar_files.specs.ReportText.{ReportLine, TellsEach}

-- the first faults, as many as are this policy's
abbrev pub faults_of_first : List ℕ → List FaultTree → List FaultTree
faults_of_first policy [] = []
faults_of_first policy (f ∷ fs) = cond (bytes_eq f.policy policy) (f ∷ faults_of_first policy fs) []

-- the others
abbrev pub faults_after : List ℕ → List FaultTree → List FaultTree
faults_after policy [] = []
faults_after policy (f ∷ fs) = cond (bytes_eq f.policy policy) (faults_after policy fs) (f ∷ fs)

-- whether the first of these ids is the policy's
abbrev pub begins_with : List ℕ → List (List ℕ) → Bool
begins_with policy [] = false
begins_with policy (id ∷ ids) = bytes_eq id policy

-- these lines were appended to the old text
abbrev pub AppendsLines : List ReportLine → List ℕ → List ℕ → Type 0
AppendsLines lines old new = (told : List ℕ) × TellsEach lines told × (new ≡ old ++ told)
