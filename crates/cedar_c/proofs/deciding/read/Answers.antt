use Rattle.std.proofs.Common.{◌≡◌, ◌≢◌, Result, Ok, Err, subst}
use Rattle.std.specs.Prelude.{IfErr, MatchResult}
use Rattle.cedar_value.specs.declared.request.Request.{Request}
use Rattle.cedar_conform.specs.Parts.{PartsDenote, PartsHaveFault, PartsTree}
use Rattle.cedar_conform.specs.declared.fitting_request.FittingRequest.{FittingRequest}
use Rattle.cedar_conform_values.specs.Numbers.{number_of}
use Rattle.cedar_conform_values.specs.declared.conform_fault.ConformFault.{ConformFault}
use Rattle.cedar_conform_values.specs.declared.conform_fault.ConformFault.TheVariants.{OutOfMemory}
use Rattle.cedar_auth_spec.specs.Ready.{ReadyTree}
use Rattle.cedar_c.specs.Deciding.{ArePartsRefused, by_fault, not_texts}
use Rattle.cedar_c.proofs.deciding.read.Goals as goal

-- what is refused has a fault, and denotes no request
refused_parts : (r : ReadyTree) (p : PartsTree) (result : Result FittingRequest ConformFault) → IfErr result (λ fault. fault ≢ OutOfMemory → PartsHaveFault r.schema p fault)
    → ((q : Request) → PartsDenote r.schema p q → MatchResult result (λ found. found.request ≡ q) (λ fault. fault ≡ OutOfMemory))
    → IfErr result (λ fault. fault ≢ OutOfMemory → ArePartsRefused r p (number_of fault))
refused_parts r p (Ok found) refused only = tt
refused_parts r p (Err fault) refused only = λ other. by_fault other (refused other) (λ q h. other (only q h))

pub returns-clause-refused : goal.returns-clause-refused
returns-clause-refused c =
    subst (λ (p : PartsTree). IfErr c.read_fitting_parts.result (λ fault. fault ≢ OutOfMemory → ArePartsRefused c.args.ready.now p (number_of fault))) c.in-Some.ensures
    (refused_parts c.args.ready.now _ c.read_fitting_parts.result c.read_fitting_parts.ensures.refused c.read_fitting_parts.ensures.only)

pub returns-in_default-clause-refused : goal.returns-in_default-clause-refused
returns-in_default-clause-refused c = λ _. not_texts c.in_default.ensures
