use Rattle.cedar_conform_diagnostics.specs.declared.data_fault.RefusedEntry.{RefusedEntry}
use Rattle.cedar_conform_diagnostics.proofs.PassingLemmas.{none_told}
use Rattle.cedar_conform_diagnostics.proofs.entries.refused_entry.Goals as goal

pub returns-in-Ok-clause-none : goal.returns-in-Ok-clause-none
returns-in-Ok-clause-none c = none_told c.args.schema.now c.args.bytes.items (λ (r : RefusedEntry). r.position) (λ (r : RefusedEntry). r.fault.number) c.in-Ok.found c.in-Ok.ensures
