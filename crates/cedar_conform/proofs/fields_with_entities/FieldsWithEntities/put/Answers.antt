use Rattle.std.proofs.Common.{sym, ◌∙◌}
use Rattle.std.specs.Prelude.{codes}
use Rattle.std.proofs.lemmas.Slice.Eq.{bytes_eq-Decides}
use Rattle.cedar_conform.specs.RequestsWithEntities.{members_without}
use Rattle.cedar_conform.proofs.WithoutKey.{entities_put, other_put}
use Rattle.cedar_conform.proofs.fields_with_entities.FieldsWithEntities.put.Goals as goal

pub returns-then-eq : goal.returns-then-eq
returns-then-eq c = λ ms are. entities_put c.args.key.now c.args.value ms c.args.self.now are ((bytes_eq-Decides c.args.key.now (codes "entities")).0 (sym c.eq.ensures ∙ c.if-eq.true))

pub returns-else-eq : goal.returns-else-eq
returns-else-eq c = λ ms are.
    other_put c.args.key.now c.args.value ms c.args.self.now are (sym c.eq.ensures ∙ c.if-eq.false) c.put.new.self (c.put.ensures (members_without (codes "entities") ms) are.request)
