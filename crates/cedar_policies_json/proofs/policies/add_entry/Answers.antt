use Rattle.std.specs.Prelude.{Contains}
use Rattle.cedar_ast.specs.AddFault.{number_of}
use Rattle.cedar_ast.specs.PolicySetTree.{id_of, ids_in}
use Rattle.cedar_policies_json.proofs.Entering.{refused_where}
use Rattle.cedar_policies_json.proofs.policies.add_entry.Goals as goal

pub returns-in-Err-clause-refused : goal.returns-in-Err-clause-refused
returns-in-Err-clause-refused c =
    rw c.refusal-refusal.ensures (refused_where (Contains (ids_in c.args.set.now) (id_of c.args.entry)) (number_of c.in-Err.fault) c.in-Err.ensures.duplicate)
