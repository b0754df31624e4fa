-- Lemmas on entities files.
use Rattle.std.proofs.Common.{◌≡◌, ◌≢◌, ℕ, List, Option, None, Some, sym, subst}
use Rattle.std.specs.Prelude.{IfSome}
use Rattle.cedar_schema_spec.specs.SchemaTree.{SchemaTree}
use Rattle.cedar_conform_values.specs.Numbers.{number_of}
use Rattle.cedar_conform_values.specs.declared.conform_fault.ConformFault.{ConformFault}
use Rattle.cedar_conform_values.specs.declared.conform_fault.ConformFault.TheVariants.{OutOfMemory}
use Rattle.cedar_conform_entities.specs.Bytes.{BytesHaveFault}
use Rattle.cedar_files.specs.EntitiesFile.{HoldsNoWorld}
use Rattle.cedar_files.specs.Unread.{IfRefused}
use Rattle.cedar_files.specs.declared.reading.Unread.{Unread}
use Rattle.cedar_files.specs.declared.reading.Unread.TheVariants.{Refused, Unnamed, Device, Memory}

-- what is refused of the bytes that were read is refused of the file
pub of_bytes : (s : SchemaTree) (holds : Option (Option (List ℕ))) (bytes : List ℕ) (fault : ConformFault) (unread : Unread)
    → IfSome holds (λ held. held ≡ Some bytes)
    → (fault ≢ OutOfMemory → BytesHaveFault s bytes fault)
    → IfRefused unread (λ refusal. (fault ≢ OutOfMemory) × (refusal ≡ record { number = number_of fault; offset = None }))
    → IfRefused unread (λ refusal. IfSome holds (λ held. HoldsNoWorld s held refusal))
of_bytes s None bytes fault (Refused r) held has told = tt
of_bytes s (Some x) bytes fault (Refused r) held has told =
    subst (λ (y : Option (List ℕ)). HoldsNoWorld s y r) (sym held) (fault, has told.0, told.0, told.1)
of_bytes s holds bytes fault Unnamed held has told = tt
of_bytes s holds bytes fault Device held has told = tt
of_bytes s holds bytes fault Memory held has told = tt
