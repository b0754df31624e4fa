use Rattle.std.proofs.Common.{◌≡◌, ◌⊎◌, Contains, ap, arith, length, not, ◌∙◌}
use Rattle.cedar_value.specs.World.{Below}
use Rattle.cedar_value.specs.declared.uid.Uid.{Uid}
use Rattle.cedar_store.specs.Private.Overlaid.{world_over}
use Rattle.cedar_store.proofs.Gathered.{Adds-gathered, was_ok}
use Rattle.cedar_store.proofs.overlay.Overlay.push_above.Goals as goal

pub returns-clause-adds : goal.returns-clause-adds
returns-clause-adds c =
    let w = world_over c.args.self.now.base.now.world c.args.self.now.changes.now in
    let gathers = was_ok c.gather_parents.result (c.is_err.ensures.negation ∙ ap not c.if-is_err.false) c.gather_parents.ensures.gathers in
    let whole : c.len-begun.result ≡ length c.args.found.now.items = omega arith in
    Adds-gathered c.len-begun.result c.args.found.now.items c.gather_parents.new.found.items (λ v. (p : Uid) × Contains c.args.parents.now p × ((p ≡ v) ⊎ Below w p v)) whole c.gather_parents.ensures.kept gathers
