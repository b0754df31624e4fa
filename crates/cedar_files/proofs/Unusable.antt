-- Lemmas on files that hold no policies that are ready.
use Rattle.std.proofs.Common.{◌≡◌, inr, refl, sym, subst}
use Rattle.cedar_ast.specs.PolicySetTree.{PolicySetTree}
use Rattle.cedar_schema_spec.specs.SchemaTree.{SchemaTree}
use Rattle.cedar_check_spec.specs.declared.settings.Settings.{Settings}
use Rattle.cedar_auth.specs.ValidationFaults.{HasFaultWith}
use Rattle.cedar_auth.specs.declared.not_validated.NotValidated.{NotValidated}
use Rattle.cedar_auth.specs.declared.validation_fault.ValidationFault.{ValidationFault}
use Rattle.cedar_auth.specs.declared.validation_fault.ValidationFault.TheVariants as fault
use Rattle.cedar_files.specs.Faulty.{AreFaulty}
use Rattle.cedar_files.specs.Roles.{Holdings}
use Rattle.cedar_files.specs.Unprepared.{IsUnprepared}
use Rattle.cedar_files.specs.Unread.{IfRefused}
use Rattle.cedar_files.specs.Validation.{Hold}
use Rattle.cedar_files.specs.Private.Unusable.{unaccepted_by, unaccepted_of, unusable_of}
use Rattle.cedar_files.specs.declared.files.Role.{Role}
use Rattle.cedar_files.specs.declared.reading.Unread.{Unread}
use Rattle.cedar_files.specs.declared.reading.Unread.TheVariants as unread
use Rattle.cedar_files.specs.declared.refusal.FileRefusal.{FileRefusal}
use Rattle.cedar_files.specs.declared.unprepared.Unprepared.{Unprepared}
use Rattle.cedar_files.specs.declared.unprepared.Unprepared.TheVariants.{Refused, Unnamed, Device, Memory}
use Rattle.cedar_files.proofs.Holding.{hold-back}

-- what a refusal of a file is to all files
pub if-refused : (P Q : FileRefusal → Type 0) (u : Unread) → ((r : FileRefusal) → P r → Q r) → IfRefused u P → IfRefused u Q
if-refused P Q (unread.Refused r) f p = f r p
if-refused P Q unread.Unnamed f p = tt
if-refused P Q unread.Device f p = tt
if-refused P Q unread.Memory f p = tt

-- a file that cannot be used
pub unusable-is : (P : Unprepared → Type 0) (role : Role) (u : Unread) (why : Unprepared) → why ≡ unusable_of role u
    → IfRefused u (λ r. P (Refused role r)) → (u ≡ unread.Unnamed → P Unnamed) → (u ≡ unread.Device → P Device) → P Memory → P why
unusable-is P role (unread.Refused r) why e refused unnamed device memory = subst P (sym e) refused
unusable-is P role unread.Unnamed why e refused unnamed device memory = subst P (sym e) (unnamed refl)
unusable-is P role unread.Device why e refused unnamed device memory = subst P (sym e) (device refl)
unusable-is P role unread.Memory why e refused unnamed device memory = subst P (sym e) memory

module _ (settings : Settings) (holds : Holdings) where
  by-fault : (r : NotValidated) (f : ValidationFault) → r.fault ≡ f → Hold settings.language holds r.schema r.policies → HasFaultWith settings r.schema r.policies.policies f
      → IsUnprepared settings holds (unaccepted_by r f)
  by-fault r fault.OutOfMemory e hold has = tt
  by-fault r (fault.Faults report) e hold has =
      record { hold = hold; some = has.some; report = report; is_report = e; reports = record { faults = has.faults; warnings = has.warnings } }
  by-fault r fault.TooLong e hold has = inr (r.schema, r.policies, hold, has, refl)

  fault-back : (s back_s : SchemaTree) (set back_set : PolicySetTree) (f : ValidationFault) → HasFaultWith settings s set.policies f → (back_s ≡ s) × (back_set ≡ set)
      → HasFaultWith settings back_s back_set.policies f
  fault-back s back_s set back_set f has same =
      subst (λ (x : SchemaTree). HasFaultWith settings x back_set.policies f) (sym same.0) (subst (λ (x : PolicySetTree). HasFaultWith settings s x.policies f) (sym same.1) has)

  -- policies that strict validation does not accept
  pub unaccepted-is : (s : SchemaTree) (set : PolicySetTree) (r : NotValidated) (why : Unprepared) → why ≡ unaccepted_of r → Hold settings.language holds s set
      → (r.schema ≡ s) × (r.policies ≡ set) → HasFaultWith settings s set.policies r.fault → IsUnprepared settings holds why
  unaccepted-is s set r why e hold same has =
      subst (IsUnprepared settings holds) (sym e)
      (by-fault r r.fault refl (hold-back settings.language holds s r.schema set r.policies hold same) (fault-back s r.schema set r.policies r.fault has same))

  -- the fault of policies with faults
  pub has-fault : (r : NotValidated) → AreFaulty settings holds r → HasFaultWith settings r.schema r.policies.policies r.fault
  has-fault r h =
      subst (HasFaultWith settings r.schema r.policies.policies) (sym h.is_report) (record { faults = h.reports.faults; warnings = h.reports.warnings; some = h.some })
