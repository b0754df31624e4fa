use Rattle.std.proofs.Common.{◌≢◌, ℕ, List, subst}
use Rattle.std.specs.Prelude.{IfErr, IfOk}
use Rattle.cedar_conform_values.specs.declared.conform_fault.ConformFault.TheVariants.{OutOfMemory}
use Rattle.cedar_conform_entities.specs.Bytes.{BytesDenote, BytesHaveFault}
use Rattle.cedar_conform_entities.proofs.entities.read_entities.Goals as goal

pub returns-clause-denotes : goal.returns-clause-denotes
returns-clause-denotes c =
    subst (λ (bytes : List ℕ). IfOk c.read_entities_owned.result (BytesDenote c.args.schema.now bytes)) c.in_ok-copied.ensures.items c.read_entities_owned.ensures.denotes

pub returns-clause-refused : goal.returns-clause-refused
returns-clause-refused c =
    subst (λ (bytes : List ℕ). IfErr c.read_entities_owned.result (λ f. f ≢ OutOfMemory → BytesHaveFault c.args.schema.now bytes f)) c.in_ok-copied.ensures.items
    c.read_entities_owned.ensures.refused
