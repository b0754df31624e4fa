use Rattle.std.proofs.Common.{sym, ◌∙◌}
use Rattle.std.specs.Prelude.{codes}
use Rattle.std.proofs.lemmas.Slice.Eq.{bytes_eq-Decides}
use Rattle.cedar_conform.proofs.FieldLemmas.{principal_put, action_put, resource_put, context_put, unknown_put}
use Rattle.cedar_conform.proofs.fields.Fields.put.Goals as goal

pub returns-then-eq : goal.returns-then-eq
returns-then-eq c = λ ms are. principal_put c.args.key.now c.args.value ms c.args.self.now are ((bytes_eq-Decides c.args.key.now (codes "principal")).0 (sym c.eq.ensures ∙ c.if-eq.true))

pub returns-then-eq-2 : goal.returns-then-eq-2
returns-then-eq-2 c = λ ms are. action_put c.args.key.now c.args.value ms c.args.self.now are ((bytes_eq-Decides c.args.key.now (codes "action")).0 (sym c.eq-else-eq.ensures ∙ c.if-eq-2.true))

pub returns-then-eq-3 : goal.returns-then-eq-3
returns-then-eq-3 c = λ ms are. resource_put c.args.key.now c.args.value ms c.args.self.now are ((bytes_eq-Decides c.args.key.now (codes "resource")).0 (sym c.eq-else-eq-2.ensures ∙ c.if-eq-3.true))

pub returns-then-eq-4 : goal.returns-then-eq-4
returns-then-eq-4 c = λ ms are. context_put c.args.key.now c.args.value ms c.args.self.now are ((bytes_eq-Decides c.args.key.now (codes "context")).0 (sym c.eq-else-eq-3.ensures ∙ c.if-eq-4.true))

pub returns-else-eq-4 : goal.returns-else-eq-4
returns-else-eq-4 c = λ ms are.
    unknown_put c.args.key.now c.args.value ms c.args.self.now are (sym c.eq.ensures ∙ c.if-eq.false) (sym c.eq-else-eq.ensures ∙ c.if-eq-2.false) (sym c.eq-else-eq-2.ensures ∙ c.if-eq-3.false) (sym c.eq-else-eq-3.ensures ∙ c.if-eq-4.false)
