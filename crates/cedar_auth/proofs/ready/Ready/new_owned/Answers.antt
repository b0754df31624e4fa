use Rattle.std.proofs.Common.{◌≢◌, sym, subst}
use Rattle.cedar_ast.specs.PolicySetTree.{PolicySetTree}
use Rattle.cedar_conform_values.specs.declared.conform_fault.ConformFault.TheVariants.{OutOfMemory}
use Rattle.cedar_conform_entities.specs.Bytes.{BytesHaveFault}
use Rattle.cedar_schema_spec.specs.Conformance.{Conforms}
use Rattle.cedar_schema_spec.specs.SchemaTree.{SchemaTree}
use Rattle.cedar_auth_candidates.specs.Candidates.{AreCandidatesFor}
use Rattle.cedar_auth.specs.declared.ready.Indexed.{Indexed}
use Rattle.cedar_auth.specs.Private.Kept.{IsReady}
use Rattle.cedar_auth.proofs.ready.Ready.new_owned.Goals as goal

pub invariant_of-result : goal.invariant_of-result
invariant_of-result c =
    let store = c.in-Ok.store in
    let candidates = c.in-Ok-new.candidates in
    subst (λ (i : Indexed). IsReady i.validated.schema i.validated.policies.policies store i.candidates) (sym c.in-Ok-new-2.ensures.ok) (record {
      conforms = subst (λ (s : SchemaTree). Conforms s store) c.schema.ensures.value c.in-Ok.ensures.conforms;
      candidates = subst (λ (s : SchemaTree). AreCandidatesFor s c.args.validated.policies.policies candidates) c.schema-2.ensures.value
          (subst (λ (set : PolicySetTree). AreCandidatesFor c.schema-2.result.now set.policies candidates) c.policies.ensures.value c.in-Ok-new.ensures);
    })

pub returns-in-Err-clause-refused : goal.returns-in-Err-clause-refused
returns-in-Err-clause-refused c =
    subst (λ (s : SchemaTree). c.in-Err.fault ≢ OutOfMemory → BytesHaveFault s c.args.entities.items c.in-Err.fault) c.schema.ensures.value c.in-Err.ensures.refused
