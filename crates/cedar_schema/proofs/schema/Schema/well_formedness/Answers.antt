use Rattle.std.proofs.Common.{subst}
use Rattle.cedar_value.specs.declared.uid.Uid.{Uid}
use Rattle.cedar_schema_spec.specs.Descents.{ActionDescends}
use Rattle.cedar_schema_spec.specs.SchemaTree.{SchemaTree}
use Rattle.cedar_schema_spec.specs.WellFormed.{IsWellFormed}
use Rattle.cedar_schema.proofs.DeclaredLemmas.{above_declared, contexts_ordered}
use Rattle.cedar_schema.proofs.EnvironmentOrder.{environments_in_order}
use Rattle.cedar_schema.proofs.schema.Schema.well_formedness.Goals as goal

kept : (c : goal.After-self) → IsWellFormed c.args.self.now
kept c = subst IsWellFormed c.self.view_is c.self.invariant.3

acyclic : (c : goal.After-self) (u : Uid) → ActionDescends c.args.self.now u u → ⊥
acyclic c = subst (λ (s : SchemaTree). (u : Uid) → ActionDescends s u u → ⊥) c.self.view_is c.self.invariant.4

pub returns : goal.returns
returns c = record {
  in_order = (kept c).in_order;
  environments = environments_in_order c.args.self.now (kept c).in_order (kept c).lists;
  entity_parents = (kept c).entity_parents;
  apart = (kept c).apart;
  members = (kept c).members;
  hierarchy = (above_declared c.args.self.now (kept c).members, acyclic c);
  shapes = (kept c).shapes;
  contexts = contexts_ordered c.args.self.now (kept c).action_contexts;
  lists = (kept c).lists;
  action_contexts = (kept c).action_contexts;
  types_declared = (kept c).types_declared;
}
