use Rattle.std.proofs.Common.{◌≢◌, ℕ, List, subst}
use Rattle.std.specs.Prelude.{IfErr, IfOk}
use Rattle.cedar_conform_values.specs.declared.conform_fault.ConformFault.TheVariants.{OutOfMemory}
use Rattle.cedar_conform_entities.specs.Bytes.{BytesDenote, BytesHaveFault}
use Rattle.cedar_auth.proofs.ready.Ready.new.Goals as goal

pub returns-in-Ok-clause-denotes : goal.returns-in-Ok-clause-denotes
returns-in-Ok-clause-denotes c =
    subst (λ (bytes : List ℕ). IfOk c.new_owned.result (λ r. BytesDenote c.args.validated.schema bytes r.world)) c.in-Ok.ensures.items c.new_owned.ensures.denotes

pub returns-in-Ok-clause-refused : goal.returns-in-Ok-clause-refused
returns-in-Ok-clause-refused c =
    subst (λ (bytes : List ℕ). IfErr c.new_owned.result (λ e. e.fault ≢ OutOfMemory → BytesHaveFault c.args.validated.schema bytes e.fault)) c.in-Ok.ensures.items
    c.new_owned.ensures.refused
