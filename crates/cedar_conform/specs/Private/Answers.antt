-- The results of the calls that read a request from its JSON, and from a line.
use Rattle.std.specs.Prelude.{◌≡◌, ◌≢◌, ℕ, List, None, MatchOption, Result, MatchResult}
use Rattle.serde_json.specs.Data.{Data}
use Rattle.serde_json.specs.Find.{as_object}
use Rattle.base_json.specs.JsonTree.{json_of}
use Rattle.cedar_value.specs.declared.request.Request.{Request}
use Rattle.cedar_schema_spec.specs.SchemaTree.{SchemaTree}
use Rattle.cedar_conform_values.specs.declared.conform_fault.ConformFault.{ConformFault}
use Rattle.cedar_conform_values.specs.declared.conform_fault.ConformFault.TheVariants.{OutOfMemory, Json, Shape}
use Rattle.cedar_conform.specs.Requests.{Denotes, HasFault, LineDenotes, LineHasFault}

-- a refusal other than out of memory names a fault that is there
abbrev pub IsAnswer : SchemaTree → Data → Result Request ConformFault → Type 0
IsAnswer s d result = MatchResult result (Denotes s d) (λ f. f ≢ OutOfMemory → HasFault s d f)

-- the same of the bytes of a line
abbrev pub IsLineAnswer : SchemaTree → List ℕ → Result Request ConformFault → Type 0
IsLineAnswer s line result = MatchResult result (LineDenotes s line) (λ f. f ≢ OutOfMemory → LineHasFault s line f)

-- what is not JSON is refused so, unless memory runs out
abbrev pub IsNoJson : Result Request ConformFault → Type 0
IsNoJson result = MatchResult result (λ q. ⊥) (λ f. f ≢ OutOfMemory → f ≡ Json)

-- the line is not JSON, or its JSON is not an object
abbrev pub IsNoObjectFault : List ℕ → ConformFault → Type 0
IsNoObjectFault line f = MatchOption (json_of line) (f ≡ Json) (λ d. (f ≡ Shape) × (as_object d ≡ None))
